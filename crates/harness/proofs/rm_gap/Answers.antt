-- `harness::rm_gap` meets its contract. Assumes nothing.
use Rattle.packing.specs.PackingLaws.{gap_returns}
use Rattle.harness.proofs.rm_gap.Goals as goal

pub returns : goal.returns
returns c =
    gap_returns c.gap-answer.ensures c.pack_measured.ensures

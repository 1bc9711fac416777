-- `harness::rm_is_codeword` meets its contract. Assumes nothing.
use Rattle.packing.specs.PackingLaws.{test_returns}
use Rattle.harness.proofs.rm_is_codeword.Goals as goal

pub returns : goal.returns
returns c =
    test_returns c.is_codeword-answer.ensures c.pack_tested.ensures

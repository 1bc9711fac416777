-- `harness::by_table::rm_decode_made` meets its contract. Assumes nothing.
use Rattle.packing.specs.PackingLaws.{decoding_returns}
use Rattle.harness.proofs.by_table.rm_decode_made.Goals as goal

pub returns : goal.returns
returns c =
    rw c.made_of.ensures at (decoding_returns c.decode_table-answer.ensures c.pack_decoded.ensures)

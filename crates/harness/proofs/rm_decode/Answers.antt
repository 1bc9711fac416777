-- `harness::rm_decode` meets its contract. Assumes nothing.
use Rattle.packing.specs.PackingLaws.{decoding_returns}
use Rattle.harness.proofs.rm_decode.Goals as goal

pub returns : goal.returns
returns c =
    decoding_returns c.decode-answer.ensures c.pack_decoded.ensures

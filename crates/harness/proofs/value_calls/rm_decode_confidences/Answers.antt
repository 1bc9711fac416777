-- `harness::value_calls::rm_decode_confidences` meets its contract. Assumes nothing.
use Rattle.packing.specs.PackingLaws.{decoding_returns}
use Rattle.harness.proofs.value_calls.rm_decode_confidences.Goals as goal

pub returns : goal.returns
returns c =
    decoding_returns c.decode_confidences-answer.ensures c.pack_decoded.ensures

-- `confidence_decoder::both::decode_confidences_both` meets its contract. Assumes nothing.
use Rattle.confidences.proofs.AlikeLaws.{calls_alike}
use Rattle.confidence_decoder.proofs.both.decode_confidences_both.Goals as goal

pub returns : goal.returns
returns c w differ fit fit' =
    calls_alike _ _ _ _ differ fit fit' c.decode_confidences-first.ensures c.decode_confidences-second.ensures

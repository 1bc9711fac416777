-- `confidence_decoder::both::decode_confidences_table_both` meets its contract. Assumes nothing.
use Rattle.confidences.proofs.AlikeLaws.{entries_alike}
use Rattle.confidence_decoder.proofs.both.decode_confidences_table_both.Goals as goal

pub returns : goal.returns
returns g c w differ fit fit' =
    entries_alike _ _ differ fit fit' c.decode_confidences_table-first.ensures c.decode_confidences_table-second.ensures

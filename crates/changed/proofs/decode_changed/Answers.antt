-- `changed::decode_changed` meets its contract. Assumes nothing.
use Rattle.changed.proofs.Keeping.{calls_keep}
use Rattle.changed.proofs.decode_changed.Goals as goal

pub returns : goal.returns
returns c =
    calls_keep _ _ c.gap-gap.ensures c.decode-first.ensures c.decode-second.ensures

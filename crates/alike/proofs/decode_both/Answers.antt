-- `alike::decode_both` meets its contract. Assumes nothing.
use Rattle.alike.proofs.Agreeing.{calls_alike}
use Rattle.alike.proofs.decode_both.Goals as goal

pub returns : goal.returns
returns c =
    calls_alike _ _ c.decode-first.ensures c.decode-second.ensures

-- `guarantee::decode_sent` meets its contract. Assumes nothing.
use Rattle.guarantee.proofs.Mended.{call_mended}
use Rattle.guarantee.proofs.decode_sent.Goals as goal

pub returns : goal.returns
returns c =
    λ w. call_mended c.decode.ensures

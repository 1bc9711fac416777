-- `guarantee::decode_profile_sent` meets its contract. Assumes nothing.
use Rattle.guarantee.proofs.Mended.{profile_mended}
use Rattle.guarantee.proofs.decode_profile_sent.Goals as goal

pub returns : goal.returns
returns c =
    λ w. profile_mended c.decode_profile.ensures

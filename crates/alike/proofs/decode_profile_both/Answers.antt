-- `alike::decode_profile_both` meets its contract. Assumes nothing.
use Rattle.alike.proofs.Agreeing.{profiles_alike}
use Rattle.alike.proofs.decode_profile_both.Goals as goal

pub returns : goal.returns
returns c =
    profiles_alike _ c.decode_profile-first.ensures c.decode_profile-second.ensures

-- `changed::decode_profile_changed` meets its contract. Assumes nothing.
use Rattle.changed.proofs.Keeping.{profiles_keep}
use Rattle.changed.proofs.decode_profile_changed.Goals as goal

pub returns : goal.returns
returns c =
    profiles_keep _ (rw c.exponent-m.ensures at c.gap-gap.ensures) c.decode_profile-first.ensures c.decode_profile-second.ensures

-- `changed::exponent` meets its contract. Assumes nothing.
use mathlib.Core.Path.{sym}
use Rattle.changed.proofs.Keeping.{no_profile}
use Rattle.changed.proofs.exponent.Goals as goal

pub returns-then-profile-gt4 : goal.returns-then-profile-gt4
returns-then-profile-gt4 c =
    sym (no_profile c.args.profile c.if-profile-gt4.true)

-- `array_decoder::sides::check_side` meets its contract. Assumes nothing.
use mathlib.Core.Path.{refl}
use native.Mathlib.Omega.{arith}
use Rattle.refusals.proofs.CheckLaws.{refuses}
use Rattle.refusals.specs.declared.Refusal.TheVariants.{ArrayExponent}
use Rattle.array_decoder.specs.SideLaws.{side_checked, side_long}
use Rattle.array_decoder.proofs.sides.check_side.Goals as goal
use Rattle.array_decoder.proofs.sides.check_side.Goals.{then-m-gt6+else-m-lt11, else-m-gt6}

pub returns-then-m-lt11 : goal.returns-then-m-lt11
returns-then-m-lt11 c =
    refuses ArrayExponent refl (side_long c.args.m c.args.r (omega arith) (omega arith))

pub returns : goal.returns
returns c =
    side_checked c.args.m c.args.r (λ a b. elim c.if-m-gt6.branch [ then-m-gt6+else-m-lt11 w ↦ omega arith | else-m-gt6 w ↦ omega arith ]) c.check_code.ensures

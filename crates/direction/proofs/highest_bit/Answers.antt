-- `direction::highest_bit` meets its contract: a direction is not 0, so it has fewer than 32 leading zeros. Assumes nothing.
use mathlib.Core.Path.{refl}
use native.Mathlib.Omega.{arith}
use lib.Count.{leading_top}
use Rattle.direction.specs.Direction.{highest}
use Rattle.direction.proofs.Insert.{highest_top, top_le}
use Rattle.direction.proofs.highest_bit.Goals as goal

pub overflow_sub-result : goal.overflow_sub-result
overflow_sub-result c =
    let t = leading_top 32 c.args.b c.requires.0 (omega arith) in omega arith

pub returns : goal.returns
unfolding highest
returns c =
    (refl, omega (arith, top_le (highest_top c.args.b c.requires.0 (omega arith)) 9 (omega arith)))

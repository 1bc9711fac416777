-- The pair is a turn's two numbers. Assumes nothing.
use Rattle.std.proofs.Common.{arith, ℤ}
use Rattle.area.specs.Numbers.{Half, sum_fits, difference_fits, sum_stored, difference_stored}
use Rattle.hadamard.specs.Transform.{sums}
use Rattle.hadamard.proofs.SumPairingI32.pair.Goals as goal

half_of : (x : ℤ) → sums.Room 1 x → Half x
unfolding sums
half_of x h = record { half = omega arith }

pub overflow_add-result : goal.overflow_add-result
overflow_add-result c = sum_fits (half_of _ c.requires.0) (half_of _ c.requires.1)

pub overflow_sub-result : goal.overflow_sub-result
overflow_sub-result c = difference_fits (half_of _ c.requires.0) (half_of _ c.requires.1)

pub returns : goal.returns
unfolding sums
returns c =
    let x = half_of c.args.x c.requires.0 in
    let y = half_of c.args.y c.requires.1 in
    (sum_stored x y, difference_stored x y)

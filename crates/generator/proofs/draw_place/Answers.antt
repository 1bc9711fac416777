-- `generator::draw_place` meets its contract. Assumes nothing.
use Prim.Native.Nat.{◌%◌}
use native.Mathlib.Omega.{arith}
use native.Mathlib.Nat.{mod-lt}
use Rattle.generator.specs.PlaceLaws.{count_fits, place_drawn}
use Rattle.generator.proofs.draw_place.Goals as goal

pub bounds-noise-at : goal.bounds-noise-at
bounds-noise-at c =
    rw c.requires.1 (mod-lt _ c.requires.0)

pub overflow_sub-new : goal.overflow_sub-new
overflow_sub-new c =
    omega (arith, c.requires.2.bits (c.step-x.result % c.args.n))

pub overflow_add-wrong : goal.overflow_add-wrong
overflow_add-wrong c =
    omega (arith, count_fits c.requires.2 c.requires.1 (c.step-x.result % c.args.n) (mod-lt _ c.requires.0))

pub bounds-noise-at-2 : goal.bounds-noise-at-2
bounds-noise-at-2 c =
    rw c.requires.1 (mod-lt _ c.requires.0)

pub returns : goal.returns
returns c =
    rw c.from.ensures (place_drawn c.requires.2 c.requires.1 c.step-x.ensures c.requires.0)

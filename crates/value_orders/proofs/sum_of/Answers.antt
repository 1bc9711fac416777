-- `value_orders::sum_of` meets its contract. Assumes nothing.
use Prim.Native.Nat.{◌<◌}
use native.Mathlib.Omega.{arith}
use mir.Syntax.{w32}
use mir.Val.{of_z}
use Rattle.std.proofs.Common.{ap, get_or-take, length-take-le, to_z-of_z}
use Rattle.std.proofs.Math.Facts.{of_z-to_z}
use Rattle.value_orders.specs.OrderLaws.{Summed, summed_none, summed_fits, summed_more}
use Rattle.value_orders.proofs.sum_of.Goals as goal

pub loop-z-init : goal.loop-z-init
loop-z-init c =
    summed_none _ _

pub loop-z-preserved : goal.loop-z-preserved
loop-z-preserved c =
    let d : Summed c.args.n c.args.area.now c.loop-z.z-index c.loop-z.s-bits = rw (of_z-to_z c.loop-z.auto.s) at c.loop-z.invariant in
    let l : c.loop-z.z-index < c.args.n = omega (arith, c.loop-z-test.true, length-take-le c.args.n c.args.area.now c.requires.1.room) in
    rw (get_or-take c.args.n c.args.area.now c.loop-z.z-index _ l, ap (of_z w32) (to_z-of_z (summed_fits c.requires.0 c.requires.1 d l))) (summed_more c.requires.0 c.requires.1 d l)

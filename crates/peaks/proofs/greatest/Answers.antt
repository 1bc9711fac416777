-- `peaks::greatest` meets its contract. Assumes nothing.
use Rattle.std.proofs.Common.{◌<◌, ◌^◌, arith, ap, of_z, ◌∙◌}
use Rattle.std.proofs.Math.Facts.{of_z-to_z}
use Rattle.std.specs.Int.{w32}
use Rattle.std.specs.Prelude.{nat_abs}
use Rattle.area.specs.Area.{at}
use Rattle.area.specs.Numbers.{stored-eq}
use Rattle.peaks.specs.Searches.{Greatest, greatest_kept, greatest_new, greatest_none}
use Rattle.peaks.proofs.greatest.Goals as goal
use Rattle.peaks.proofs.greatest.Goals.{then-g-x, else-g-x}

pub loop-x-init : goal.loop-x-init
loop-x-init c = greatest_none

pub loop-x-preserved : goal.loop-x-preserved
loop-x-preserved c =
    let l = c.loop-x in
    let whole = c.requires.whole l.x-index (omega arith) in
    let small : nat_abs (at c.args.sizes.now l.x-index) < 2 ^ 30 = omega (arith, c.requires.small l.x-index (omega arith)) in
    let g : Greatest l.x-index _ l.g-bits = rw (of_z-to_z l.auto.g) at l.invariant in
    elim c.if-g-x.branch [
      | then-g-x w ↦ greatest_new g whole small w.if-g-x.true (ap (of_z w32) (w.g-is ∙ stored-eq (at c.args.sizes.now l.x-index) (omega (arith, small))))
      | else-g-x w ↦ greatest_kept g whole small w.if-g-x.false (ap (of_z w32) w.g-is ∙ of_z-to_z l.auto.g)
    ]

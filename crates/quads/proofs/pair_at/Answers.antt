-- `quads::pair_at` meets its contract: the numbers of the quad, and their sums or differences. Assumes nothing.
use mathlib.Core.Path.{◌≡◌, ◌∙◌}
use mathlib.Core.Bool.{cond}
use lib.Dec.{eqb}
use lib.IntN.{◌+ℤ◌, ◌-ℤ◌}
use borrow.Author.Tests.{eq-eqb, ne_eqb}
use mir.Syntax.{w32}
use mir.Val.{to_z}
use Rattle.area.specs.Numbers.{stored}
use Rattle.quads.specs.Quads.{first_sum, last_sum, first_difference, last_difference}
use Rattle.quads.proofs.QuadCasts.{Made, sum_made, difference_made, made_fits, made_stored}
use Rattle.quads.proofs.pair_at.Goals as goal
use Rattle.quads.proofs.pair_at.Goals.{then-j-low, else-j-low}

pub overflow_add-x : goal.overflow_add-x
overflow_add-x c =
    let x-sum : Made (stored c.number_of-a.result +ℤ stored c.number_of-b.result) (first_sum c.args.z) = sum_made 1 256 c.requires c.number_of-a.ensures c.number_of-b.ensures in
    made_fits (x-sum)

pub overflow_sub-x : goal.overflow_sub-x
overflow_sub-x c =
    let x-difference : Made (stored c.number_of-a.result -ℤ stored c.number_of-b.result) (first_difference c.args.z) = difference_made 1 256 c.requires c.number_of-a.ensures c.number_of-b.ensures in
    made_fits (x-difference)

pub overflow_add-y : goal.overflow_add-y
overflow_add-y c =
    let y-sum : Made (stored c.number_of-c.result +ℤ stored c.number_of-d.result) (last_sum c.args.z) = sum_made 65536 16777216 c.requires c.number_of-c.ensures c.number_of-d.ensures in
    made_fits (y-sum)

pub overflow_sub-y : goal.overflow_sub-y
overflow_sub-y c =
    let y-difference : Made (stored c.number_of-c.result -ℤ stored c.number_of-d.result) (last_difference c.args.z) = difference_made 65536 16777216 c.requires c.number_of-c.ensures c.number_of-d.ensures in
    made_fits (y-difference)

pub returns-then-j-low-2 : goal.returns-then-j-low-2
returns-then-j-low-2 c =
    let x-sum : Made (stored c.number_of-a.result +ℤ stored c.number_of-b.result) (first_sum c.args.z) = sum_made 1 256 c.requires c.number_of-a.ensures c.number_of-b.ensures in
    let x-difference : Made (stored c.number_of-a.result -ℤ stored c.number_of-b.result) (first_difference c.args.z) = difference_made 1 256 c.requires c.number_of-a.ensures c.number_of-b.ensures in
    let x-is : let a = c.args in
    to_z w32 c.if-j-low.x-bits ≡ cond (eqb a.j a.low) (first_sum a.z) (first_difference a.z) = let a = c.args in
    elim c.if-j-low.branch [
      | then-j-low w ↦ rw (eq-eqb a.j a.low w.if-j-low.true) (w.x-is ∙ made_stored x-sum)
      | else-j-low w ↦ rw (ne_eqb a.j a.low w.if-j-low.false) (w.x-is ∙ made_stored x-difference)
    ] in
    let y-sum : Made (stored c.number_of-c.result +ℤ stored c.number_of-d.result) (last_sum c.args.z) = sum_made 65536 16777216 c.requires c.number_of-c.ensures c.number_of-d.ensures in
    let a = c.args in
    (x-is, rw (eq-eqb a.j a.low c.if-j-low-2.true) (made_stored (y-sum)))

pub returns-else-j-low-2 : goal.returns-else-j-low-2
returns-else-j-low-2 c =
    let x-sum : Made (stored c.number_of-a.result +ℤ stored c.number_of-b.result) (first_sum c.args.z) = sum_made 1 256 c.requires c.number_of-a.ensures c.number_of-b.ensures in
    let x-difference : Made (stored c.number_of-a.result -ℤ stored c.number_of-b.result) (first_difference c.args.z) = difference_made 1 256 c.requires c.number_of-a.ensures c.number_of-b.ensures in
    let x-is : let a = c.args in
    to_z w32 c.if-j-low.x-bits ≡ cond (eqb a.j a.low) (first_sum a.z) (first_difference a.z) = let a = c.args in
    elim c.if-j-low.branch [
      | then-j-low w ↦ rw (eq-eqb a.j a.low w.if-j-low.true) (w.x-is ∙ made_stored x-sum)
      | else-j-low w ↦ rw (ne_eqb a.j a.low w.if-j-low.false) (w.x-is ∙ made_stored x-difference)
    ] in
    let y-difference : Made (stored c.number_of-c.result -ℤ stored c.number_of-d.result) (last_difference c.args.z) = difference_made 65536 16777216 c.requires c.number_of-c.ensures c.number_of-d.ensures in
    let a = c.args in
    (x-is, rw (ne_eqb a.j a.low c.if-j-low-2.false) (made_stored (y-difference)))

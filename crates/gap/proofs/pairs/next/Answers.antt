-- `gap::pairs::next` meets its contract. Assumes nothing.
use Prim.Native.Nat.{ℕ}
use mathlib.Core.Path.{◌≡◌, sym, ap, ◌∙◌}
use mathlib.Core.Bool.{cond}
use native.Mathlib.Omega.{arith}
use lib.Dec.{eqb}
use lib.IntN.{pos, nat_abs}
use mir.Syntax.{w32}
use mir.Val.{of_z}
use Rattle.area.specs.Area.{at, size_at}
use Rattle.area.specs.Numbers.{stored}
use Rattle.peaks.specs.Stored.{as_it_is}
use Rattle.peaks.specs.Searches.{Greatest, count_hit, count_miss, count_most, count_none, greatest_kept, greatest_new, greatest_none}
use Rattle.gap.specs.Measuring.{Size}
use Rattle.gap.specs.SizeLaws.{size_read, size_word, unlike_most}
use Rattle.gap.proofs.pairs.next.Goals as goal
use Rattle.gap.proofs.pairs.next.Goals.{then-x-g, else-x-g, then-second-z, else-second-z}
use Rattle.std.proofs.Math.Facts.{of_z-to_z}

pub loop-x-init : goal.loop-x-init
loop-x-init c = (sym (count_none _ _), greatest_none)

pub overflow_add-count : goal.overflow_add-count
overflow_add-count c =
    let few = c.requires.0.few in
    omega (arith, count_most)

pub loop-x-preserved : goal.loop-x-preserved
loop-x-preserved c =
    let size-at : Size (at c.args.sizes.now c.loop-x.x-index) = let s = c.requires.0 in
    let l = c.loop-x in
    record { whole = s.whole l.x-index (omega arith); small = s.small l.x-index (omega arith) } in
    let l = c.loop-x in
    let second : Greatest l.x-index _ l.second-bits = rw (of_z-to_z l.auto.second) at l.invariant.1 in
    let f = size_at c.args.sizes.now in
    let g = nat_abs (stored c.args.g) in
    let told : of_z w32 c.args.g ≡ g = size_word c.requires.1 ∙ sym (ap nat_abs (size_read c.requires.1)) in
    let word = size_word size-at in
    let z = c.under-z.ensures ∙ ap (λ (a : ℕ). pos (cond (eqb a g) 0 a)) (ap nat_abs (size_read size-at)) in
    let small = size-at.small in (
      elim c.if-x-g.branch [
        | then-x-g w ↦ omega (arith, l.invariant.0, count_hit f g l.x-index (sym word ∙ w.if-x-g.true ∙ told))
        | else-x-g w ↦ omega (arith, l.invariant.0, count_miss f g l.x-index (λ e. w.if-x-g.false (word ∙ e ∙ sym told)))
      ],
      elim c.if-second-z.branch [
        | then-second-z w ↦ greatest_new second z (omega (arith, unlike_most f g l.x-index, small)) w.if-second-z.true (ap (of_z w32) (w.second-is ∙ as_it_is {z = c.under-z.result} c.under-z.type_inv))
        | else-second-z w ↦ greatest_kept second z (omega (arith, unlike_most f g l.x-index, small)) w.if-second-z.false (ap (of_z w32) w.second-is ∙ of_z-to_z l.auto.second)
      ],
    )

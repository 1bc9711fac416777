-- `gap::pairs::to_sizes` meets its contract. Assumes nothing.
use Prim.Native.Nat.{◌+◌, ◌<◌}
use mathlib.Core.Path.{◌≡◌, ap₂, ◌∙◌}
use native.Mathlib.Omega.{arith}
use lib.IntN.{ℤ, pos}
use Rattle.std.proofs.Common.{of_z, ap}
use Rattle.std.proofs.Math.Facts.{of_z-to_z}
use Rattle.std.specs.Int.{w32}
use Rattle.area.specs.Area.{at}
use Rattle.area.specs.Numbers.{stored}
use Rattle.peaks.specs.PairLaws.{lesser_read, lesser_small, pair_is, pair_small}
use Rattle.peaks.specs.Peaks.{lesser_size, pair_size}
use Rattle.peaks.specs.Searches.{Greatest, greatest_kept, greatest_new, greatest_none}
use Rattle.peaks.specs.Stored.{as_it_is}
use Rattle.words.specs.Written.{written_none, written_more}
use Rattle.gap.proofs.pairs.to_sizes.Goals as goal
use Rattle.gap.proofs.pairs.to_sizes.Goals.{then-most-s, else-most-s, then-lower-t, else-lower-t}

pub loop-i-init : goal.loop-i-init
loop-i-init c = (written_none _ _ _ _, greatest_none, greatest_none)

pub loop-i-preserved : goal.loop-i-preserved
loop-i-preserved c =
    let first : let l = c.loop-i in at l.part l.i ≡ at c.args.part.now l.i = let l = c.loop-i in l.invariant.0.above l.i (omega arith) in
    let second : let l = c.loop-i in
    let h = c.args.h in at l.part (h + l.i) ≡ at c.args.part.now (h + l.i) = let l = c.loop-i in l.invariant.0.above (c.args.h + l.i) (omega arith) in
    let l = c.loop-i in
    let most : Greatest l.i _ l.most-bits = rw (of_z-to_z l.auto.most) at l.invariant.1 in
    let lower : Greatest l.i _ l.lower-bits = rw (of_z-to_z l.auto.lower) at l.invariant.2 in
    let k = c.requires in
    let i : l.i < c.args.h = omega arith in
    let size = pair_is k i (c.size_of-s.ensures ∙ ap₂ (λ (x y : ℤ). pos (pair_size (stored x) (stored y))) (first) (second)) in
    let other = lesser_read k i (c.lesser_of-t.ensures ∙ ap₂ (λ (x y : ℤ). pos (lesser_size (stored x) (stored y))) (first) (second)) in (
      written_more l.invariant.0 _ _ (omega arith) (omega (arith, k.size)) (as_it_is c.size_of-s.type_inv ∙ size),
      elim c.if-most-s.branch [
        | then-most-s w ↦ greatest_new most size (omega (arith, pair_small k i)) w.if-most-s.true (ap (of_z w32) (w.most-is ∙ as_it_is {z = c.size_of-s.result} c.size_of-s.type_inv))
        | else-most-s w ↦ greatest_kept most size (omega (arith, pair_small k i)) w.if-most-s.false (ap (of_z w32) w.most-is ∙ of_z-to_z l.auto.most)
      ],
      elim c.if-lower-t.branch [
        | then-lower-t w ↦ greatest_new lower other (omega (arith, lesser_small k i)) w.if-lower-t.true (ap (of_z w32) (w.lower-is ∙ as_it_is {z = c.lesser_of-t.result} c.lesser_of-t.type_inv))
        | else-lower-t w ↦ greatest_kept lower other (omega (arith, lesser_small k i)) w.if-lower-t.false (ap (of_z w32) w.lower-is ∙ of_z-to_z l.auto.lower)
      ],
    )

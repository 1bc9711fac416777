-- `halves::pair_sizes` meets its contract. Assumes nothing.
use Rattle.std.specs.Prelude.{ℕ, ◌<◌, ◌≡◌, List, ℤ, pos, nat_abs, ◌+ℤ◌}
use Rattle.std.proofs.Common.{ap, ap₂, ◌∙◌, arith}
use Rattle.words.specs.Written.{Written, written_more, written_to}
use Rattle.area.specs.Area.{at}
use Rattle.area.specs.Numbers.{stored, sum_fits, sum_stored}
use Rattle.halves.specs.Halves.{first_in, second_of, size_of, Packed}
use Rattle.peaks.specs.Stored.{number_read}
use Rattle.halves.proofs.Casts.{IsSize, pair_read, number_small, size_read}
use Rattle.halves.proofs.pair_sizes.Goals as goal

-- ---- a turn: r is a number of pair i, as the code reads it, and s its size
module _ {h i : ℕ} {xs ys : List ℤ} (k : Packed h xs) (w : Written (pos 0) h i (λ j. pos (size_of (at xs j))) xs ys) (l : i < h) where
  pair_small : nat_abs (stored (at ys i)) < 2097152
  pair_small = rw (pair_read k w l) (k.small i l)

  first : {r : ℤ} → r ≡ first_in (stored (at ys i)) → stored r ≡ first_in (at xs i)
  first e = number_read (e ∙ ap first_in (pair_read k w l)) (omega (arith, k.first i l))

  second : {r : ℤ} → r ≡ second_of (stored (at ys i)) → stored r ≡ second_of (at xs i)
  second e = number_read (e ∙ ap second_of (pair_read k w l)) (omega (arith, k.second i l))

  first_size : {r s : ℤ} → r ≡ first_in (stored (at ys i)) → s ≡ pos (nat_abs (stored r)) → IsSize s (first_in (at xs i))
  first_size e f = size_read f (first e) (k.first i l)

  second_size : {r s : ℤ} → r ≡ second_of (stored (at ys i)) → s ≡ pos (nat_abs (stored r)) → IsSize s (second_of (at xs i))
  second_size e f = size_read f (second e) (k.second i l)

-- ---- the needs
pub first_of-requires : goal.first_of-requires
first_of-requires c = pair_small c.requires c.loop-i.invariant (omega arith)

pub absolute-requires : goal.absolute-requires
absolute-requires c =
    let l : c.loop-i.i < c.args.h = omega arith in
    number_small (first c.requires c.loop-i.invariant l c.first_of.ensures) (c.requires.first _ l)

pub second_of-requires : goal.second_of-requires
second_of-requires c = pair_small c.requires c.loop-i.invariant (omega arith)

pub absolute-requires-in-loop-i : goal.absolute-requires-in-loop-i
absolute-requires-in-loop-i c =
    let l : c.loop-i.i < c.args.h = omega arith in
    number_small (second c.requires c.loop-i.invariant l c.second_of.ensures) (c.requires.second _ l)

pub overflow_add-part : goal.overflow_add-part
overflow_add-part c =
    let l : c.loop-i.i < c.args.h = omega arith in
    let x = first_size c.requires c.loop-i.invariant l c.first_of.ensures c.absolute.ensures in
    let y = second_size c.requires c.loop-i.invariant l c.second_of.ensures c.absolute-in-loop-i.ensures in
    sum_fits x.half y.half

pub loop-i-preserved : goal.loop-i-preserved
loop-i-preserved c =
    let l : c.loop-i.i < c.args.h = omega arith in
    let x = first_size c.requires c.loop-i.invariant l c.first_of.ensures c.absolute.ensures in
    let y = second_size c.requires c.loop-i.invariant l c.second_of.ensures c.absolute-in-loop-i.ensures in
    let sum = sum_stored x.half y.half ∙ ap₂ ◌+ℤ◌ x.is y.is in
    written_more c.loop-i.invariant _ _ (omega arith) (omega arith) sum

pub returns : goal.returns
returns c = written_to c.loop-i.invariant c.args.h (omega arith)

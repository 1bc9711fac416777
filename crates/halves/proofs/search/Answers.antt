-- The sizes of the pairs, their greatest and its key lead to the peak.
use Rattle.std.specs.Prelude.{ℕ, ◌+◌, ◌-◌, ◌%◌, ◌≤◌, ◌<◌, ◌^◌, ◌≡◌, List, ℤ, pos, nat_abs, length, take, drop}
use Rattle.std.proofs.Common.{sym, ap, ◌∙◌, subst, arith}
use Rattle.std.specs.Int.Signed.{mag}
use lib.Dec.{lt→ltb}
use Rattle.words.specs.Sum.{greatest_below}
use Rattle.words.specs.Written.{Written}
use Rattle.area.specs.Area.{at, size_at}
use Rattle.area.specs.Numbers.{stored, stored-eq}
use Rattle.area.specs.Places.{Place, Places, place, places}
use Rattle.halves.specs.Halves.{first_in, second_of, size_of, Packed}
use Rattle.halves.specs.PairNumbers.{sizes_held, sizes_small}
use Rattle.peaks.specs.Peaks.{Sizes, keys_below}
use Rattle.peaks.specs.Found.{held_sizes, held_searched, Searched, searched_many, searched_peak, searched_place}
use Rattle.peaks.specs.Stored.{as_it_is, peak_as}
use Rattle.halves.proofs.search.Goals as goal

-- ---- the pairs of xs, and ys, in which their sizes are written
module _ {h : ℕ} {xs ys : List ℤ} (k : Packed h xs) (w : Written (pos 0) h h (λ i. pos (size_of (at xs i))) xs ys) where
  placed : Places h h (length ys)
  placed = places (omega (arith, k.few, k.size, w.long)) (lt→ltb 0 h k.some) (omega (arith, k.size, w.long))

  abbrev written : List ℤ
  written = take ((h + h) - h) (drop h ys)

  sizes_are : Sizes written
  sizes_are = held_sizes k.few (sizes_held k w) (sizes_small k)

  -- the greatest size, and its key
  module _ {g : ℤ} {key : ℕ} (eg : g ≡ pos (greatest_below (length written) (size_at written))) (fits : mag g < 2 ^ 31) (ek : key ≡ keys_below (length written) (size_at written) (nat_abs (stored g))) where
    told : Searched h (λ i. first_in (at xs i)) (λ i. second_of (at xs i)) key
    told = held_searched k.few (sizes_held k w) k.some eg (rw (as_it_is fits) at ek)

    -- it is the size of one pair
    module _ (one : key ≤ 131071) where
      below : key % 65536 < h
      below = searched_place told one

      pair_place : Place (key % 65536) (length ys)
      pair_place = place (omega (arith, k.few, k.size, w.long)) (omega (arith, below, k.size, w.long))

      pair_read : stored (at ys (key % 65536)) ≡ at xs (key % 65536)
      pair_read = ap stored (w.below (key % 65536) below) ∙ stored-eq (at xs (key % 65536)) (omega (arith, k.small (key % 65536) below))

      pair_small : nat_abs (stored (at ys (key % 65536))) < 2097152
      pair_small = subst (λ (z : ℤ). nat_abs z < 2097152) (sym pair_read) (k.small (key % 65536) below)

-- ---- the needs
pub returns-then-key-gt131071 : goal.returns-then-key-gt131071
returns-then-key-gt131071 c =
    searched_many (told c.requires c.pair_sizes.ensures c.greatest-g.ensures c.greatest-g.type_inv c.keys-key.ensures) c.if-key-gt131071.true

pub slice_copy_out-z : goal.slice_copy_out-z
slice_copy_out-z c =
    (pair_place c.requires c.pair_sizes.ensures c.greatest-g.ensures c.greatest-g.type_inv c.keys-key.ensures c.if-key-gt131071.false).below

pub overflow_add-h : goal.overflow_add-h
overflow_add-h c =
    let l = below c.requires c.pair_sizes.ensures c.greatest-g.ensures c.greatest-g.type_inv c.keys-key.ensures c.if-key-gt131071.false in
    ((placed c.requires c.pair_sizes.ensures).each _ (lt→ltb _ _ l)).index

pub first_of-requires : goal.first_of-requires
first_of-requires c =
    pair_small c.requires c.pair_sizes.ensures c.greatest-g.ensures c.greatest-g.type_inv c.keys-key.ensures c.if-key-gt131071.false

pub second_of-requires : goal.second_of-requires
second_of-requires c =
    pair_small c.requires c.pair_sizes.ensures c.greatest-g.ensures c.greatest-g.type_inv c.keys-key.ensures c.if-key-gt131071.false

pub returns : goal.returns
returns c =
    let read = pair_read c.requires c.pair_sizes.ensures c.greatest-g.ensures c.greatest-g.type_inv c.keys-key.ensures c.if-key-gt131071.false in
    let first = as_it_is c.first_of.type_inv ∙ c.first_of.ensures ∙ ap first_in read in
    let second = as_it_is c.second_of.type_inv ∙ c.second_of.ensures ∙ ap second_of read in
    rw c.ok.ensures.value
    (searched_peak (told c.requires c.pair_sizes.ensures c.greatest-g.ensures c.greatest-g.type_inv c.keys-key.ensures) c.if-key-gt131071.false
    (peak_as first second c.peak_at.ensures))

-- The sizes of the quads' pairs, their greatest and its key lead to the peak. Assumes nothing.
use Rattle.std.specs.Prelude.{ℕ, ◌+◌, ◌-◌, ◌%◌, ◌^◌, ◌≤◌, ◌<◌, ◌≡◌, List, ℤ, pos, nat_abs, length, take, drop}
use Rattle.std.proofs.Common.{◌∙◌, arith, Fits}
use Rattle.std.specs.Int.{w64}
use Rattle.std.specs.Int.Signed.{mag}
use native.Mathlib.Nat.{le_of_lt}
use lib.Dec.{lt→ltb}
use Rattle.words.specs.Sum.{greatest_below}
use Rattle.area.specs.Area.{at, size_at}
use Rattle.area.specs.Numbers.{stored}
use Rattle.area.specs.Places.{Place, Places, places, place}
use Rattle.peaks.specs.Found.{held_sizes, held_searched, Searched, searched_many, searched_peak, searched_place}
use Rattle.peaks.specs.Peaks.{Sizes, keys_below}
use Rattle.peaks.specs.Stored.{number_read, as_it_is, size_whole, peak_as}
use Rattle.quarter_sizes.specs.Sized.{Quads, Sized}
use Rattle.quarter_sizes.specs.SizedLaws.{sized_quads}
use Rattle.quarter_sizes.proofs.QuadReads.{quad_read, quad_bounded}
use Rattle.quarters.specs.Quarters.{firsts, lasts}
use Rattle.quarters.specs.QuadSizes.{sizes_held, sizes_small, low_of, low_below, first_at, last_at}
use Rattle.quarters.proofs.search.Goals as goal

pairs_fit : {q j : ℕ} → q ≤ 32 → j ≤ q + q → Fits w64 (q + q + j)
pairs_fit few l = record { fits = omega arith }

key_fits : (k : ℕ) → Fits w64 (k % 65536)
key_fits k = record { fits = omega arith }

-- ---- the quads of xs, and ys, in which the sizes of their pairs are written
module _ {q : ℕ} {xs ys : List ℤ} (k : Quads q xs) (s : Sized q q xs ys) where
  placed : Places q (q + q) (length ys)
  placed = places (omega (arith, k.few, k.size, s.long)) (lt→ltb 0 (q + q) (omega (arith, k.some))) (omega (arith, k.some, k.size, s.long))

  -- the quad that the mask of a place takes
  module _ (j : ℕ) where
    quad_place : Place (low_of q j) (length ys)
    quad_place = place (omega (arith, k.few, k.size, s.long)) (omega (arith, low_below k j, k.size, s.long))

    quad_is : stored (at ys (low_of q j)) ≡ at xs (low_of q j)
    quad_is = quad_read (sized_quads s k) _ (low_below k j) ∙ s.quads _ (low_below k j)

  abbrev written : List ℤ
  written = take ((q + (q + q)) - q) (drop q ys)

  pairs_few : q + q ≤ 512
  pairs_few = omega (arith, k.few)

  sizes_are : Sizes written
  sizes_are = held_sizes pairs_few (sizes_held k s) (λ i l. sizes_small q xs i)

  -- the greatest size, and its key
  told :
      {g : ℤ} {key : ℕ} → g ≡ pos (greatest_below (length written) (size_at written)) → mag g < 2 ^ 31
      → key ≡ keys_below (length written) (size_at written) (nat_abs (stored g)) → Searched (q + q) (firsts q xs) (lasts q xs) key
  told eg fits ek = held_searched pairs_few (sizes_held k s) (omega (arith, k.some)) eg (rw (as_it_is fits) at ek)

-- ---- the needs
pub sizes-requires : goal.sizes-requires
sizes-requires c = c.requires

pub overflow_add-h : goal.overflow_add-h
overflow_add-h c = let few = c.requires.few in record { fits = omega arith }

pub overflow_add-e : goal.overflow_add-e
overflow_add-e c = (placed c.requires c.sizes.ensures).end

pub offset_bounds-part-q : goal.offset_bounds-part-q
offset_bounds-part-q c = (placed c.requires c.sizes.ensures).start.bytes

pub slice_bounds-greatest-count : goal.slice_bounds-greatest-count
slice_bounds-greatest-count c = (placed c.requires c.sizes.ensures).ordered

pub slice_bounds-greatest-start : goal.slice_bounds-greatest-start
slice_bounds-greatest-start c = (placed c.requires c.sizes.ensures).ordered

pub slice_bounds-greatest-end : goal.slice_bounds-greatest-end
slice_bounds-greatest-end c = (placed c.requires c.sizes.ensures).within

pub greatest-g-requires : goal.greatest-g-requires
greatest-g-requires c = sizes_are c.requires c.sizes.ensures

pub offset_bounds-part-q-2 : goal.offset_bounds-part-q-2
offset_bounds-part-q-2 c = (placed c.requires c.sizes.ensures).start.bytes

pub slice_bounds-keys-count : goal.slice_bounds-keys-count
slice_bounds-keys-count c = (placed c.requires c.sizes.ensures).ordered

pub slice_bounds-keys-start : goal.slice_bounds-keys-start
slice_bounds-keys-start c = (placed c.requires c.sizes.ensures).ordered

pub slice_bounds-keys-end : goal.slice_bounds-keys-end
slice_bounds-keys-end c = (placed c.requires c.sizes.ensures).within

pub keys-key-requires : goal.keys-key-requires
keys-key-requires c = record { sizes = sizes_are c.requires c.sizes.ensures; g_value = size_whole c.greatest-g.ensures c.greatest-g.type_inv }

pub returns-then-key-gt131071 : goal.returns-then-key-gt131071
returns-then-key-gt131071 c = searched_many (told c.requires c.sizes.ensures c.greatest-g.ensures c.greatest-g.type_inv c.keys-key.ensures) c.if-key-gt131071.true

pub overflow_cast-j : goal.overflow_cast-j
overflow_cast-j c = key_fits c.keys-key.result

pub overflow_sub-low : goal.overflow_sub-low
overflow_sub-low c = c.requires.some

pub offset_bounds-part-low : goal.offset_bounds-part-low
offset_bounds-part-low c = (quad_place c.requires c.sizes.ensures (c.keys-key.result % 65536)).bytes

pub slice_copy_out-pair_at : goal.slice_copy_out-pair_at
slice_copy_out-pair_at c = (quad_place c.requires c.sizes.ensures (c.keys-key.result % 65536)).below

pub pair_at-p-requires : goal.pair_at-p-requires
pair_at-p-requires c = (quad_bounded (sized_quads c.sizes.ensures c.requires) _ (low_below c.requires (c.keys-key.result % 65536))).raisable

pub overflow_add-h-2 : goal.overflow_add-h-2
overflow_add-h-2 c = pairs_fit c.requires.few (le_of_lt (searched_place (told c.requires c.sizes.ensures c.greatest-g.ensures c.greatest-g.type_inv c.keys-key.ensures) c.if-key-gt131071.false))

pub returns : goal.returns
returns c =
    let t = told c.requires c.sizes.ensures c.greatest-g.ensures c.greatest-g.type_inv c.keys-key.ensures in
    let l = searched_place t c.if-key-gt131071.false in
    let j : ℕ = c.keys-key.result % 65536 in
    let small = sizes_small c.args.q c.args.part.now j in
    let read = quad_is c.requires c.sizes.ensures j in
    let first : stored c.pair_at-p.result.x ≡ firsts c.args.q c.args.part.now j = number_read (c.pair_at-p.ensures.0 ∙ first_at c.requires j l read) (omega (arith, small)) in
    let last : stored c.pair_at-p.result.y ≡ lasts c.args.q c.args.part.now j = number_read (c.pair_at-p.ensures.1 ∙ last_at c.requires j l read) (omega (arith, small)) in
    rw c.ok.ensures.value (searched_peak t c.if-key-gt131071.false (peak_as first last c.peak_at.ensures))

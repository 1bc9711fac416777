-- `nearest::find_peak` meets its contract. Assumes nothing.
use Prim.Native.Nat.{ℕ, ◌+◌, ◌*◌, ◌^◌, ◌≤◌, ◌<◌}
use mathlib.Core.Path.{◌≡◌, refl, sym, subst, ◌∙◌}
use mathlib.Core.Bool.{Bool, true, false, cond, false≢true}
use mathlib.Core.List.{List}
use native.Mathlib.Omega.{arith}
use native.Mathlib.Nat.{le_refl, le_trans}
use lib.Dec.{ltb, lt→ltb}
use lib.IntN.{ℤ}
use lib.ListN.{length}
use lib.Pow.{pow_mono, pow_pos}
use borrow.Author.Tests.{ltb-true}
use Rattle.area.specs.Area.{Bits}
use Rattle.area.specs.Places.{Places, places}
use Rattle.nearest.specs.Nearest.{quartered, part_exponent}
use Rattle.nearest.proofs.Lent.{Layout, Packing, lent_summable, search_part, found_peak, front_kept}
use Rattle.nearest.proofs.Halves.{halves}
use Rattle.nearest.proofs.Quarters.{quarters}
use Rattle.nearest.proofs.find_peak.Goals as goal

-- ---- which packing
quartered_between : (m : ℕ) → quartered m ≡ true → (4 ≤ m) × (m ≤ 7)
quartered_between m e = go (ltb 3 m) refl e
  where
    go : (t : Bool) → ltb 3 m ≡ t → cond t (ltb m 8) false ≡ true → (4 ≤ m) × (m ≤ 7)
    go true h k = (ltb-true 3 m h, omega (arith, ltb-true m 8 k))
    go false h k = absurd (false≢true k)

part_below : (b : Bool) (m : ℕ) → part_exponent b m ≤ m
part_below true m = omega arith
part_below false m = omega arith

packing : {m k n q : ℕ} {xs : List ℤ} (b : Bool) → b ≡ quartered m → k ≡ part_exponent b m → 1 ≤ m → m ≤ 10 → Layout m k n q xs
    → Packing b m k n q xs
packing {m} true e ek some few a =
    let between = quartered_between m (sym e) in
    quarters a (omega (arith, between)) (omega (arith, between)) (omega (arith, between))
packing false e ek some few a = halves a (omega arith) (omega arith)

-- ---- the word in the area, as the code has its sizes
-- r numbers are lent after the n places of the word, in an area of 2 n
lent_placed : {n r k l : ℕ} (j : ℕ) → r ≡ 2 ^ j → r ≤ n → k * 4 < 2 ^ 63 → k ≡ n + n → l ≡ k → Places n r l
lent_placed {r = r} j power h small room same = places (omega arith) (lt→ltb 0 r (omega (arith, pow_pos j))) (omega arith)

-- what the code has before it packs: n places, of which a part has q = 2 ^ k
module _ {m k : ℕ} {b : Bool} {xs : List ℤ} (asked : (1 ≤ m) × (m ≤ 10) × (length xs ≡ 2 * 2 ^ m) × Bits (2 ^ m) xs) (which : b ≡ quartered m) (exponent : k ≡ part_exponent b m) where
  exponent_below : k ≤ m
  exponent_below = omega (arith, exponent, part_below b m)

  module _ {n q : ℕ} (all : n ≡ 2 ^ m) (part : q ≡ 2 ^ k) where
    layout : Layout m k n q xs
    layout = record {
      places = all;
      part = part;
      within = omega (arith, all, part, pow_mono {j = m} exponent_below);
      room = omega (arith, all, asked.2);
      bits = subst (λ (r : ℕ). Bits r xs) (sym all) asked.3;
    }

    packed : Packing b m k n q xs
    packed = packing b which exponent asked.0 asked.1 layout

    -- the packed signs, and the room for the search, in an area as long
    module _ {l : ℕ} (small : length xs * 4 < 2 ^ 63) (same : l ≡ length xs) where
      signs_at : Places n q l
      signs_at = lent_placed k part layout.within small layout.room same

      whole_at : Places n n l
      whole_at = lent_placed m all (le_refl _) small layout.room same

-- ---- the needs
pub size-n-requires : goal.size-n-requires
size-n-requires c = c.requires.1

pub part_exponent-k-requires : goal.part_exponent-k-requires
part_exponent-k-requires c = (c.requires.0, λ e. omega (arith, (quartered_between c.args.m (sym c.by_quarters-quarters.ensures ∙ e)).0))

pub size-q-requires : goal.size-q-requires
size-q-requires c = le_trans (exponent_below c.requires c.by_quarters-quarters.ensures c.part_exponent-k.ensures) c.requires.1

pub pack-requires : goal.pack-requires
pack-requires c = (packed c.requires c.by_quarters-quarters.ensures c.part_exponent-k.ensures c.size-n.ensures c.size-q.ensures).packable

pub overflow_add-e : goal.overflow_add-e
overflow_add-e c = (signs_at c.requires c.by_quarters-quarters.ensures c.part_exponent-k.ensures c.size-n.ensures c.size-q.ensures c.well_formed.1.0.1 c.pack.auto.area).end

pub offset_bounds-area-n : goal.offset_bounds-area-n
offset_bounds-area-n c = (signs_at c.requires c.by_quarters-quarters.ensures c.part_exponent-k.ensures c.size-n.ensures c.size-q.ensures c.well_formed.1.0.1 c.pack.auto.area).start.bytes

pub slice_bounds-correlate-count : goal.slice_bounds-correlate-count
slice_bounds-correlate-count c = (signs_at c.requires c.by_quarters-quarters.ensures c.part_exponent-k.ensures c.size-n.ensures c.size-q.ensures c.well_formed.1.0.1 c.pack.auto.area).ordered

pub slice_bounds-correlate-start : goal.slice_bounds-correlate-start
slice_bounds-correlate-start c = (signs_at c.requires c.by_quarters-quarters.ensures c.part_exponent-k.ensures c.size-n.ensures c.size-q.ensures c.well_formed.1.0.1 c.pack.auto.area).ordered

pub slice_bounds-correlate-end : goal.slice_bounds-correlate-end
slice_bounds-correlate-end c = (signs_at c.requires c.by_quarters-quarters.ensures c.part_exponent-k.ensures c.size-n.ensures c.size-q.ensures c.well_formed.1.0.1 c.pack.auto.area).within

pub correlate-requires : goal.correlate-requires
correlate-requires c =
    let p = packed c.requires c.by_quarters-quarters.ensures c.part_exponent-k.ensures c.size-n.ensures c.size-q.ensures in
    lent_summable p (p.written c.pack.ensures)

pub overflow_add-end : goal.overflow_add-end
overflow_add-end c = (whole_at c.requires c.by_quarters-quarters.ensures c.part_exponent-k.ensures c.size-n.ensures c.size-q.ensures c.well_formed.1.0.1 c.pack.auto.area).end

pub offset_bounds-area-n-2 : goal.offset_bounds-area-n-2
offset_bounds-area-n-2 c = (whole_at c.requires c.by_quarters-quarters.ensures c.part_exponent-k.ensures c.size-n.ensures c.size-q.ensures c.well_formed.1.0.1 c.pack.auto.area).start.bytes

pub slice_bounds-search-count : goal.slice_bounds-search-count
slice_bounds-search-count c = (whole_at c.requires c.by_quarters-quarters.ensures c.part_exponent-k.ensures c.size-n.ensures c.size-q.ensures c.well_formed.1.0.1 c.pack.auto.area).ordered

pub slice_bounds-search-start : goal.slice_bounds-search-start
slice_bounds-search-start c = (whole_at c.requires c.by_quarters-quarters.ensures c.part_exponent-k.ensures c.size-n.ensures c.size-q.ensures c.well_formed.1.0.1 c.pack.auto.area).ordered

pub slice_bounds-search-end : goal.slice_bounds-search-end
slice_bounds-search-end c = omega (arith, (whole_at c.requires c.by_quarters-quarters.ensures c.part_exponent-k.ensures c.size-n.ensures c.size-q.ensures c.well_formed.1.0.1 c.pack.auto.area).within)

pub search-requires : goal.search-requires
search-requires c =
    let p = packed c.requires c.by_quarters-quarters.ensures c.part_exponent-k.ensures c.size-n.ensures c.size-q.ensures in
    p.searchable (search_part p (p.written c.pack.ensures) c.correlate.ensures)

pub returns : goal.returns
returns c =
    let p = packed c.requires c.by_quarters-quarters.ensures c.part_exponent-k.ensures c.size-n.ensures c.size-q.ensures in
    let w = p.written c.pack.ensures in
    record {
      found = found_peak p (search_part p w c.correlate.ensures) c.search.ensures;
      kept = front_kept p w c.correlate.ensures c.search.new.part c.search.auto.part;
    }

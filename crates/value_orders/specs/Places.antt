-- The greatest size of h pairs, with its last and its first place, by two keys: where the places agree it is met there alone. Assumes nothing.
use Rattle.std.specs.Prelude.{ℕ, zero, suc, ◌+◌, ◌-◌, ◌*◌, ◌%◌, ◌≤◌, ◌<◌, ◌≡◌, ◌≢◌, ℤ, None, Result}
use Rattle.std.specs.Result.{result_ok}
use Rattle.std.proofs.Common.{sym, ap, ◌∙◌, subst, not-suc-le-zero, arith}
use Rattle.words.specs.Sum.{greatest_below}
use Rattle.hadamard.specs.Peak.{Alone, Shared, greatest_bound, greatest_met}
use Rattle.peaks.specs.declared.Peak.{Peak}
use Rattle.peaks.specs.Peaks.{joined, IsPeak, PeakAt}
use Rattle.peaks.specs.Keys.{keys_alone}
use Rattle.peaks.specs.Pairs.{joined_layout, pairs_share, sizes}
use Rattle.peaks.specs.Found.{Searched, no_peak, searched_peak}

-- ---- keys

-- a size and its place in one number, and a size and what its place leaves to 511
abbrev pub up_key : (ℕ → ℕ) → ℕ → ℕ
up_key s i = 512 * s i + i

abbrev pub down_key : (ℕ → ℕ) → ℕ → ℕ
down_key s i = 512 * s i + (511 - i)

-- the greatest of some numbers is one of them
met : (n : ℕ) (f : ℕ → ℕ) → 0 < n → (i : ℕ) × (i < n) × (f i ≡ greatest_below n f)
met zero f h = absurd (not-suc-le-zero h)
met (suc n) f h = greatest_met f n

-- ---- the last and the first place of the greatest of h sizes

module _ (h : ℕ) (s : ℕ → ℕ) where
  abbrev pub last_place : ℕ
  last_place = greatest_below h (up_key s) % 512

  abbrev pub first_place : ℕ
  first_place = 511 - greatest_below h (down_key s) % 512

  module _ (some : 0 < h) (few : h ≤ 512) where
    last_met : (last_place < h) × (up_key s last_place ≡ greatest_below h (up_key s))
    last_met =
        let (i, l, e) = met h (up_key s) some in
        subst (λ (j : ℕ). (j < h) × (up_key s j ≡ greatest_below h (up_key s))) (omega (arith, few, l, e)) (l, e)

    first_met : (first_place < h) × (down_key s first_place ≡ greatest_below h (down_key s))
    first_met =
        let (i, l, e) = met h (down_key s) some in
        subst (λ (j : ℕ). (j < h) × (down_key s j ≡ greatest_below h (down_key s))) (omega (arith, few, l, e)) (l, e)

    pub last_below : last_place < h
    last_below = last_met.0

    -- they agree: the greatest is there alone
    pub one_place : first_place ≡ last_place → Alone h s last_place
    one_place e = record {
      below = last_met.0;
      others = λ i l ne.
          omega (arith, few, ap s e, last_met.1, first_met.1, greatest_bound (up_key s) h i l, greatest_bound (down_key s) h i l);
    }

    -- they differ: both have it
    pub two_places : first_place ≢ last_place → Shared h s
    two_places ne = record {
      first = first_place;
      second = last_place;
      first_below = first_met.0;
      second_below = last_met.0;
      apart = ne;
      equal =
          omega (
            arith,
            last_met.1,
            first_met.1,
            greatest_bound (up_key s) h first_place first_met.0,
            greatest_bound (down_key s) h last_place last_met.0,
          );
      most = λ i l. omega (arith, first_met.1, greatest_bound (down_key s) h i l);
    }

-- ---- the peak of the sums and differences of the pairs x i, y i

module _ {h : ℕ} (x y : ℕ → ℤ) (some : 0 < h) (few : h ≤ 512) where
  pub places_apart : first_place h (sizes x y) ≢ last_place h (sizes x y) → IsPeak (h + h) (joined h x y) None
  places_apart ne = no_peak (h + h) (joined h x y) (pairs_share (joined_layout h x y) (two_places h (sizes x y) some few ne))

  pub places_meet :
      {j : ℕ} {r : Result Peak Peak} → j ≡ last_place h (sizes x y) → first_place h (sizes x y) ≡ j → PeakAt j (h + j) (x j) (y j) r
      → IsPeak (h + h) (joined h x y) (result_ok r)
  places_meet {j} ej e k = searched_peak found (omega (arith, few, a.below)) (rw back k)
    where
      a : Alone h (sizes x y) j
      a = subst (Alone h (sizes x y)) (sym ej) (one_place h (sizes x y) some few (e ∙ ej))

      found : Searched h x y (65536 + j)
      found = record { some = some; few = few; keys = sym (keys_alone a) }

      back : (65536 + j) % 65536 ≡ j
      back = omega (arith, few, a.below)

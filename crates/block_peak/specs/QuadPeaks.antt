-- The peak of the values of some quads, from the greatest key and the count of its size. Assumes nothing.
use Rattle.std.specs.Prelude.{ℕ, zero, suc, ◌+◌, ◌*◌, ◌/◌, ◌%◌, ◌≤◌, ◌<◌, pred, ◌≡◌, refl, true, false, not, ◌&&◌, List, ◌≢◌, ◌⊎◌, eqb, ℤ, nat_abs, None, Result}
use Rattle.std.specs.Result.{result_ok}
use Rattle.std.proofs.lemmas.Bool.{false≢true}
use Rattle.std.proofs.Common.{sym, ap, ap₂, ◌∙◌, subst, inl, inr, ⊎_elim, eq-eqb, ne_eqb, lt-ltb, le-ltb}
use Rattle.std.proofs.Math.Decide.{ℕ_discrete, dec_lt}
use native.Mathlib.Omega.{arith}
use Rattle.std.proofs.Math.ListN.{length}
use Rattle.words.specs.Sum.{greatest_below, sum_below, total}
use Rattle.words.specs.SumLaws.{le_or_lt, sum_ext}
use Rattle.words.specs.Word.{indicator}
use Rattle.area.specs.Area.{at}
use Rattle.hadamard.specs.Correlation.{count_below}
use Rattle.hadamard.specs.Peak.{Alone, Shared, else_shared, greatest_at, greatest_bound, greatest_met, one_alone}
use Rattle.peaks.specs.declared.Peak.{Peak}
use Rattle.peaks.specs.Peaks.{IsPeak, PeakAt}
use Rattle.peaks.specs.Pairs.{Layout, greater_below, greater_is, greater_sign, greater_place, pair_alone, pair_even, pairs_share, sizes}
use Rattle.peaks.specs.Found.{no_peak, pair_peak}
use Rattle.peaks.specs.Stored.{peak_as}
use Rattle.quads.specs.Quads.{number_of, sum_size, difference_size}
use Rattle.quads.specs.Small.{sum_small, difference_small}
use Rattle.keys.specs.Keys.{key_of, greatest_key, count_of}
use Rattle.hadamard.specs.LowDigits.{by_low}
use Rattle.block_peak.specs.Sought.{value_at, lone_test, Sought}

-- ---- the pairs

-- the mask of the sum of pair j; that of its difference is 2 further
abbrev pub mask_of : ℕ → ℕ
mask_of j = 4 * (j / 2) + j % 2

-- pair j is of the sums of the quad j / 2, or where j is odd of its differences
abbrev pub firsts : List ℤ → ℕ → ℤ
firsts xs j = let z : ℤ = at xs (j / 2) in by_low j (number_of 1 z) (number_of 256 z)

abbrev pub lasts : List ℤ → ℕ → ℤ
lasts xs j = let z : ℤ = at xs (j / 2) in by_low j (number_of 65536 z) (number_of 16777216 z)

abbrev pub quad_sizes : List ℤ → ℕ → ℕ
quad_sizes xs = sizes (firsts xs) (lasts xs)

-- the values are their sums and differences
abbrev quads_layout : (xs : List ℤ) (h : ℕ) → h ≡ 2 * length xs → Layout h (h + h) (firsts xs) (lasts xs) (value_at xs)
quads_layout xs h eh = record {
  sum = mask_of;
  difference = λ j. mask_of j + 2;
  pair = λ u. 2 * (u / 4) + u % 2;
  sum_below = λ j l. omega arith;
  difference_below = λ j l. omega arith;
  sum_at = λ j l.
      let u : ℕ = mask_of j in
      let quad : u / 4 ≡ j / 2 = omega arith in
      let low : u % 4 ≡ j % 2 = omega arith in
      let lowest : u % 2 ≡ j % 2 = omega arith in
      rw (quad, low, lowest, lt-ltb (j % 2) 2 (omega arith));
  difference_at = λ j l.
      let u : ℕ = mask_of j + 2 in
      let quad : u / 4 ≡ j / 2 = omega arith in
      let lowest : u % 2 ≡ j % 2 = omega arith in
      rw (le-ltb (u % 4) 2 (omega arith), quad, lowest);
  sum_pair = λ j l. omega arith;
  difference_pair = λ j l. omega arith;
  apart = λ j l e. omega arith;
  pair_below = λ u l. omega arith;
  either = λ u l. elim (dec_lt (u % 4) 2) [
    | yes m ↦ inl (omega arith)
    | no m ↦ inr (omega arith)
  ];
}

-- ---- the sizes

module _ (xs : List ℤ) (i : ℕ) where
  sum_sized : quad_sizes xs (2 * i) ≡ sum_size (at xs i)
  sum_sized =
      let quad : (2 * i) / 2 ≡ i = omega arith in
      let even : (2 * i) % 2 ≡ 0 = omega arith in
      rw (quad, even)

  difference_sized : quad_sizes xs (2 * i + 1) ≡ difference_size (at xs i)
  difference_sized =
      let quad : (2 * i + 1) / 2 ≡ i = omega arith in
      let odd : (2 * i + 1) % 2 ≡ 1 = omega arith in
      rw (quad, odd)

by_parity : (P : ℕ → Type 0) → ((i : ℕ) → P (2 * i)) → ((i : ℕ) → P (2 * i + 1)) → (j : ℕ) → P j
by_parity P even odd j = elim (ℕ_discrete (j % 2) 0) [
  | yes e ↦ let back : 2 * (j / 2) ≡ j = omega arith in subst P back (even (j / 2))
  | no k ↦ let back : 2 * (j / 2) + 1 ≡ j = omega arith in subst P back (odd (j / 2))
]

pub quad_sizes_small : (xs : List ℤ) (j : ℕ) → quad_sizes xs j ≤ 1024
quad_sizes_small xs =
    by_parity (λ (j : ℕ). quad_sizes xs j ≤ 1024)
    (λ i. omega (arith, sum_sized xs i, sum_small (at xs i)))
    (λ i. omega (arith, difference_sized xs i, difference_small (at xs i)))

-- ---- how many are g

sum_pairs : (n : ℕ) (f : ℕ → ℕ) → sum_below (2 * n) f ≡ sum_below n (λ i. f (2 * i) + f (2 * i + 1))
unfolding total
sum_pairs zero f = refl
sum_pairs (suc n) f =
    let two : 2 * suc n ≡ suc (suc (2 * n)) = omega arith in
    let one : suc (2 * n) ≡ 2 * n + 1 = omega arith in
    rw two (omega (arith, sum_pairs n f, ap f one))

counted : (xs : List ℤ) (g : ℕ) → count_of xs g ≡ count_below (2 * length xs) (quad_sizes xs) g
unfolding count_of count_below
counted xs g =
    let is : ℕ → ℕ = λ j. indicator (eqb (quad_sizes xs j) g) in
    sum_ext (length xs) _ (λ i. is (2 * i) + is (2 * i + 1))
    (λ i l. ap₂ (λ (a b : ℕ). indicator (eqb a g) + indicator (eqb b g)) (sym (sum_sized xs i)) (sym (difference_sized xs i)))
    ∙ sym (sum_pairs (length xs) is)

-- ---- the greatest key

-- top holds the greatest size, and the mask of the sum of a pair that has it
pub record Top (xs : List ℤ) (top : ℕ) : Type 0 where
  pub pair : ℕ
  pub below : pair < 2 * length xs
  pub size : top / 1024 ≡ quad_sizes xs pair
  pub mask : top % 1024 ≡ mask_of pair
  pub most : (i : ℕ) → i < 2 * length xs → quad_sizes xs i ≤ quad_sizes xs pair

module _ (xs : List ℤ) where
  abbrev key_at : ℕ → ℕ
  key_at j = quad_sizes xs j * 1024 + mask_of j

  abbrev quad_key : ℕ → ℕ
  quad_key i = key_of (at xs i) (4 * i)

  key_even : (i : ℕ) → key_at (2 * i) ≡ sum_size (at xs i) * 1024 + 4 * i
  key_even i = omega (arith, sum_sized xs i)

  key_odd : (i : ℕ) → key_at (2 * i + 1) ≡ difference_size (at xs i) * 1024 + (4 * i + 1)
  key_odd i = omega (arith, difference_sized xs i)

  key_most : (j : ℕ) → j < 2 * length xs → key_at j ≤ greatest_key xs
  unfolding greatest_key
  key_most =
      by_parity (λ (j : ℕ). j < 2 * length xs → key_at j ≤ greatest_below (length xs) quad_key)
      (λ i l. omega (arith, key_even i, greatest_bound quad_key (length xs) i (omega arith)))
      (λ i l. omega (arith, key_odd i, greatest_bound quad_key (length xs) i (omega arith)))

  key_met : (n : ℕ) → length xs ≡ suc n → (j : ℕ) × (j < 2 * length xs) × (key_at j ≡ greatest_key xs)
  unfolding greatest_key
  key_met n e =
      let (i, l, m) = greatest_met quad_key n in
      rw e (⊎_elim
      (λ (d : difference_size (at xs i) * 1024 + (4 * i + 1) ≤ sum_size (at xs i) * 1024 + 4 * i). (2 * i, omega arith, omega (arith, key_even i, m)))
      (λ (d : sum_size (at xs i) * 1024 + 4 * i < difference_size (at xs i) * 1024 + (4 * i + 1)). (2 * i + 1, omega arith, omega (arith, key_odd i, m)))
      (le_or_lt _ _))

  pub top_found : length xs ≤ 32 → 0 < length xs → Top xs (greatest_key xs)
  top_found few some =
      let (j, l, e) = key_met (pred (length xs)) (omega arith) in
      record {
        pair = j;
        below = l;
        size = omega (arith, e);
        mask = omega (arith, e);
        most = λ i m. omega (arith, e, key_most i m);
      }

-- the pair by its mask
module _ {xs : List ℤ} {top : ℕ} (t : Top xs top) where
  pub top_quad_below : top % 1024 / 4 < length xs
  top_quad_below = omega (arith, t.mask, t.below)

  module _ {z : ℤ} (e : z ≡ at xs (top % 1024 / 4)) where
    by_mask : (v w : ℕ) → let y : ℤ = at xs (t.pair / 2) in
        by_low (top % 1024) (number_of v z) (number_of w z) ≡ by_low t.pair (number_of v y) (number_of w y)
    by_mask v w =
        let quad : top % 1024 / 4 ≡ t.pair / 2 = omega (arith, t.mask) in
        let low : top % 1024 % 2 ≡ t.pair % 2 = omega (arith, t.mask) in
        rw (e, quad, low)

    pub top_first : by_low (top % 1024) (number_of 1 z) (number_of 256 z) ≡ firsts xs t.pair
    top_first = by_mask 1 256

    pub top_last : by_low (top % 1024) (number_of 65536 z) (number_of 16777216 z) ≡ lasts xs t.pair
    top_last = by_mask 65536 16777216

-- ---- the peak

module _ {h top : ℕ} {xs : List ℤ} (s : Sought h xs) (t : Top xs top) where
  abbrev j : ℕ
  j = t.pair

  abbrev places : Layout h (h + h) (firsts xs) (lasts xs) (value_at xs)
  places = quads_layout xs h s.pairs

  below : j < h
  below = omega (arith, t.below, s.pairs)

  most : (i : ℕ) → i < h → quad_sizes xs i ≤ quad_sizes xs j
  most i l = t.most i (omega (arith, s.pairs))

  -- a size above half the places
  great_alone : h < top / 1024 → Alone (h + h) (λ u. nat_abs (value_at xs u)) (greater_place places j)
  great_alone l =
      let in_range = greater_below places j below in
      record {
        below = in_range;
        others = λ v m ne. omega (arith, s.spread v (greater_place places j) m in_range ne, greater_is places j below, t.size);
      }

  -- how many pairs have the greatest size
  count_is : count_below h (quad_sizes xs) (greatest_below h (quad_sizes xs)) ≡ count_of xs (top / 1024)
  count_is =
      ap₂ (λ (n b : ℕ). count_below n (quad_sizes xs) b) s.pairs (greatest_at (quad_sizes xs) h j below most ∙ sym t.size)
      ∙ sym (counted xs (top / 1024))

  one_pair : count_of xs (top / 1024) ≡ 1 → Alone h (quad_sizes xs) j
  one_pair e = go (one_alone h (quad_sizes xs) (count_is ∙ e))
    where
      go : {u : ℕ} → Alone h (quad_sizes xs) u → Alone h (quad_sizes xs) j
      go {u} a = elim (ℕ_discrete j u) [
        | yes q ↦ subst (Alone h (quad_sizes xs)) (sym q) a
        | no k ↦ absurd (omega (arith, a.others j below k, most u a.below))
      ]

  more_pairs : count_of xs (top / 1024) ≢ 1 → Shared h (quad_sizes xs)
  more_pairs k = else_shared h (quad_sizes xs) (omega (arith, below)) (λ e. k (sym count_is ∙ e))

  -- ---- the peak at the pair x, y

  module _ {x y : ℤ} (ex : x ≡ firsts xs j) (ey : y ≡ lasts xs j) where
    even : (nat_abs (firsts xs j) ≡ 0) ⊎ (nat_abs (lasts xs j) ≡ 0) → Shared (h + h) (λ u. nat_abs (value_at xs u))
    even = pair_even places j below most

    test_low : top / 1024 ≤ h → lone_test h xs (top / 1024) x y ≡ (eqb (count_of xs (top / 1024)) 1 && not (eqb (nat_abs x) 0) && not (eqb (nat_abs y) 0))
    test_low low = rw (le-ltb h (top / 1024) low) refl

    -- the test fails
    not_low : top / 1024 ≤ h → lone_test h xs (top / 1024) x y ≡ false → Shared (h + h) (λ u. nat_abs (value_at xs u))
    not_low low e = elim (ℕ_discrete (count_of xs (top / 1024)) 1) [
      | no m ↦ pairs_share places (more_pairs m)
      | yes ec ↦ elim (ℕ_discrete (nat_abs x) 0) [
        | yes z ↦ even (inl (rw ex at z))
        | no nx ↦ elim (ℕ_discrete (nat_abs y) 0) [
          | yes z ↦ even (inr (rw ey at z))
          | no ny ↦
              absurd (false≢true (sym e ∙ test_low low ∙ rw (eq-eqb (count_of xs (top / 1024)) 1 ec, ne_eqb (nat_abs x) 0 nx, ne_eqb (nat_abs y) 0 ny) refl))
        ]
      ]
    ]

    pub top_shared : lone_test h xs (top / 1024) x y ≡ false → IsPeak (h + h) (value_at xs) None
    top_shared e = elim (dec_lt h (top / 1024)) [
      | yes l ↦ absurd (false≢true (sym e ∙ rw (lt-ltb h (top / 1024) l) refl))
      | no l ↦ no_peak (h + h) (value_at xs) (not_low (omega arith) e)
    ]

    -- the test passes
    one_low : top / 1024 ≤ h → lone_test h xs (top / 1024) x y ≡ true → Alone h (quad_sizes xs) j
    one_low low e = elim (ℕ_discrete (count_of xs (top / 1024)) 1) [
      | yes ec ↦ one_pair ec
      | no m ↦ absurd (false≢true (rw (ne_eqb (count_of xs (top / 1024)) 1 m) at (sym (test_low low) ∙ e)))
    ]

    only : lone_test h xs (top / 1024) x y ≡ true → nat_abs (firsts xs j) ≢ 0 → nat_abs (lasts xs j) ≢ 0
        → Alone (h + h) (λ u. nat_abs (value_at xs u)) (greater_place places j)
    only e nx ny = elim (dec_lt h (top / 1024)) [
      | yes l ↦ great_alone l
      | no l ↦ pair_alone places j (one_low (omega arith) e) nx ny
    ]

    -- r is the peak at the pair x, y
    pub top_peak : lone_test h xs (top / 1024) x y ≡ true → {r : Result Peak Peak} → PeakAt (top % 1024) (top % 1024 + 2) x y r → IsPeak (h + h) (value_at xs) (result_ok r)
    top_peak e {r} k =
        pair_peak (h + h) (value_at xs) even (only e) (greater_sign places j below)
        (subst (λ (u : ℕ). PeakAt u (u + 2) (firsts xs j) (lasts xs j) r) t.mask (peak_as ex ey k))

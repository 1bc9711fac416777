-- The greatest of the sums and differences of pairs, from the sizes of the pairs. Assumes nothing.
use Rattle.std.specs.Prelude.{ℕ, ◌+◌, ◌-◌, ◌≤◌, ◌<◌, ◌≡◌, Bool, true, false, cond, ◌≢◌, ◌⊎◌, ltb, ℤ, nat_abs, ◌+ℤ◌, ◌-ℤ◌}
use Rattle.std.proofs.Common.{sym, ap, ◌∙◌, subst, inl, inr, arith, lt-ltb, le-ltb}
use Rattle.std.proofs.Math.Decide.{ℕ_discrete, dec_lt}
use Rattle.hadamard.specs.Correlation.{constant_of}
use Rattle.hadamard.specs.Peak.{Alone, Shared}
use Rattle.peaks.specs.Peaks.{alike, joined, lesser_size, pair_size}
use Rattle.peaks.specs.OnePair.{greater_of, greater_constant, greater_size, lesser_of, lesser_equal, lesser_less, lesser_most, lesser_size_lem}

-- the sizes of the pairs x j, y j
abbrev pub sizes : (ℕ → ℤ) → (ℕ → ℤ) → ℕ → ℕ
sizes x y j = pair_size (x j) (y j)

abbrev pub lessers : (ℕ → ℤ) → (ℕ → ℤ) → ℕ → ℕ
lessers x y j = lesser_size (x j) (y j)

-- the n values c are the sums and the differences of the h pairs x j, y j: where those of a pair stand, and the pair of a place
pub record Layout (h n : ℕ) (x y c : ℕ → ℤ) : Type 0 where
  pub sum : ℕ → ℕ
  pub difference : ℕ → ℕ
  pub pair : ℕ → ℕ
  pub sum_below : (j : ℕ) → j < h → sum j < n
  pub difference_below : (j : ℕ) → j < h → difference j < n
  pub sum_at : (j : ℕ) → j < h → c (sum j) ≡ x j +ℤ y j
  pub difference_at : (j : ℕ) → j < h → c (difference j) ≡ x j -ℤ y j
  pub sum_pair : (j : ℕ) → j < h → pair (sum j) ≡ j
  pub difference_pair : (j : ℕ) → j < h → pair (difference j) ≡ j
  pub apart : (j : ℕ) → j < h → sum j ≢ difference j
  pub pair_below : (u : ℕ) → u < n → pair u < h
  pub either : (u : ℕ) → u < n → (u ≡ sum (pair u)) ⊎ (u ≡ difference (pair u))

module _ {h n : ℕ} {x y c : ℕ → ℤ} (k : Layout h n x y c) where
  abbrev value_sizes : ℕ → ℕ
  value_sizes u = nat_abs (c u)

  abbrev pub greater_place : ℕ → ℕ
  greater_place j = cond (alike (x j) (y j)) (k.sum j) (k.difference j)

  abbrev pub lesser_place : ℕ → ℕ
  lesser_place j = cond (alike (x j) (y j)) (k.difference j) (k.sum j)

  -- what holds of both places of a pair
  both : (P : ℕ → Type 0) (j : ℕ) → P (k.sum j) → P (k.difference j) → P (greater_place j) × P (lesser_place j)
  both P j s d = go (alike (x j) (y j))
    where
      go : (t : Bool) → P (cond t (k.sum j) (k.difference j)) × P (cond t (k.difference j) (k.sum j))
      go true = (s, d)
      go false = (d, s)

  module _ (j : ℕ) (l : j < h) where
    greater_at : c (greater_place j) ≡ greater_of (x j) (y j)
    greater_at = go (alike (x j) (y j))
      where
        go : (t : Bool) → c (cond t (k.sum j) (k.difference j)) ≡ cond t (x j +ℤ y j) (x j -ℤ y j)
        go true = k.sum_at j l
        go false = k.difference_at j l

    lesser_at : c (lesser_place j) ≡ lesser_of (x j) (y j)
    lesser_at = go (alike (x j) (y j))
      where
        go : (t : Bool) → c (cond t (k.difference j) (k.sum j)) ≡ cond t (x j -ℤ y j) (x j +ℤ y j)
        go true = k.difference_at j l
        go false = k.sum_at j l

    pub greater_sign : constant_of (c (greater_place j)) ≡ constant_of (x j)
    greater_sign = ap constant_of greater_at ∙ greater_constant (x j) (y j)

    pub greater_is : value_sizes (greater_place j) ≡ sizes x y j
    greater_is = ap nat_abs greater_at ∙ greater_size (x j) (y j)

    pub lesser_is : value_sizes (lesser_place j) ≡ lessers x y j
    lesser_is = ap nat_abs lesser_at ∙ lesser_size_lem (x j) (y j)

    lesser_le : value_sizes (lesser_place j) ≤ sizes x y j
    lesser_le = omega (arith, ap nat_abs lesser_at, lesser_most (x j) (y j))

    below : (greater_place j < n) × (lesser_place j < n)
    below = both (λ (u : ℕ). u < n) j (k.sum_below j l) (k.difference_below j l)

    pub greater_below : greater_place j < n
    greater_below = below.0

    pub lesser_below : lesser_place j < n
    lesser_below = below.1

    pair_of : (k.pair (greater_place j) ≡ j) × (k.pair (lesser_place j) ≡ j)
    pair_of = both (λ (u : ℕ). k.pair u ≡ j) j (k.sum_pair j l) (k.difference_pair j l)

    own_apart : greater_place j ≢ lesser_place j
    own_apart = go (alike (x j) (y j))
      where
        go : (t : Bool) → cond t (k.sum j) (k.difference j) ≢ cond t (k.difference j) (k.sum j)
        go true e = k.apart j l e
        go false e = k.apart j l (sym e)

  -- the places of two pairs
  module _ {i j : ℕ} (m : i < h) (l : j < h) where
    pub greaters_apart : i ≢ j → greater_place i ≢ greater_place j
    greaters_apart d e = d (sym (pair_of i m).0 ∙ ap k.pair e ∙ (pair_of j l).0)

    pub lesser_apart : lesser_place i ≢ greater_place j
    lesser_apart e =
        let same : i ≡ j = sym (pair_of i m).1 ∙ ap k.pair e ∙ (pair_of j l).0 in
        own_apart j l (sym e ∙ ap lesser_place same)

  -- every place is one of a pair's
  pub by_place : (P : ℕ → Type 0) → ((i : ℕ) → i < h → P (greater_place i)) → ((i : ℕ) → i < h → P (lesser_place i)) → (v : ℕ) → v < n → P v
  by_place P g d v l = go (alike (x i) (y i)) (g i (k.pair_below v l)) (d i (k.pair_below v l)) (k.either v l)
    where
      i : ℕ
      i = k.pair v

      go :
          (t : Bool) → P (cond t (k.sum i) (k.difference i)) → P (cond t (k.difference i) (k.sum i))
          → (v ≡ k.sum i) ⊎ (v ≡ k.difference i) → P v
      go true a b (inl e) = subst P (sym e) a
      go true a b (inr e) = subst P (sym e) b
      go false a b (inl e) = subst P (sym e) b
      go false a b (inr e) = subst P (sym e) a

  -- ---- the greatest

  pub pairs_most : (b : ℕ) → ((j : ℕ) → j < h → sizes x y j ≤ b) → (v : ℕ) → v < n → value_sizes v ≤ b
  pairs_most b most =
      by_place (λ (v : ℕ). value_sizes v ≤ b)
      (λ i l. omega (arith, greater_is i l, most i l))
      (λ i l. omega (arith, lesser_le i l, most i l))

  -- one pair has it, and no number of the pair is 0
  pub pair_alone : (j : ℕ) → Alone h (sizes x y) j → nat_abs (x j) ≢ 0 → nat_abs (y j) ≢ 0 → Alone n value_sizes (greater_place j)
  pair_alone j a nx ny = record {
    below = greater_below j l;
    others = by_place (λ (v : ℕ). v ≢ u → value_sizes v < value_sizes u) at_greater at_lesser;
  }
    where
      u : ℕ
      u = greater_place j

      l : j < h
      l = a.below

      at_greater : (i : ℕ) → i < h → greater_place i ≢ u → value_sizes (greater_place i) < value_sizes u
      at_greater i m ne = omega (arith, greater_is i m, greater_is j l, a.others i m (λ e. ne (ap greater_place e)))

      at_lesser : (i : ℕ) → i < h → lesser_place i ≢ u → value_sizes (lesser_place i) < value_sizes u
      at_lesser i m ne = elim (ℕ_discrete i j) [
        | yes e ↦ rw e (omega (arith, ap nat_abs (lesser_at j l), lesser_less (x j) (y j) nx ny, greater_is j l))
        | no d ↦ omega (arith, lesser_le i m, greater_is j l, a.others i m d)
      ]

  -- a pair that has it has a 0: both its places have it
  pub pair_even :
      (j : ℕ) → j < h → ((i : ℕ) → i < h → sizes x y i ≤ sizes x y j) → (nat_abs (x j) ≡ 0) ⊎ (nat_abs (y j) ≡ 0)
      → Shared n value_sizes
  pair_even j l most z = record {
    first = greater_place j;
    second = lesser_place j;
    first_below = greater_below j l;
    second_below = lesser_below j l;
    apart = own_apart j l;
    equal = omega (arith, greater_is j l, ap nat_abs (lesser_at j l), lesser_equal (x j) (y j) z);
    most = λ v m. omega (arith, greater_is j l, pairs_most (sizes x y j) most v m);
  }

  -- two pairs have it
  pub pairs_share : Shared h (sizes x y) → Shared n value_sizes
  pairs_share s =
      let i : ℕ = s.first in
      let j : ℕ = s.second in
      let m : i < h = s.first_below in
      let l : j < h = s.second_below in
      record {
        first = greater_place i;
        second = greater_place j;
        first_below = greater_below i m;
        second_below = greater_below j l;
        apart = greaters_apart m l s.apart;
        equal = greater_is i m ∙ s.equal ∙ sym (greater_is j l);
        most = λ v b. omega (arith, greater_is i m, pairs_most (sizes x y i) s.most v b);
      }

-- ---- the sums, then the differences

abbrev pub joined_layout : (h : ℕ) (x y : ℕ → ℤ) → Layout h (h + h) x y (joined h x y)
joined_layout h x y = record {
  sum = λ j. j;
  difference = λ j. h + j;
  pair = λ u. cond (ltb u h) u (u - h);
  sum_below = λ j l. omega arith;
  difference_below = λ j l. omega arith;
  sum_at = λ j l. rw (lt-ltb j h l);
  difference_at = λ j l. rw (le-ltb (h + j) h (omega arith), back j);
  sum_pair = λ j l. rw (lt-ltb j h l);
  difference_pair = λ j l. rw (le-ltb (h + j) h (omega arith)) (back j);
  apart = λ j l e. omega arith;
  pair_below = λ u l. elim (dec_lt u h) [
    | yes m ↦ rw (lt-ltb u h m) m
    | no m ↦ rw (le-ltb u h (omega arith)) (omega arith)
  ];
  either = λ u l. elim (dec_lt u h) [
    | yes m ↦ inl (rw (lt-ltb u h m))
    | no m ↦ inr (rw (le-ltb u h (omega arith)) (omega arith))
  ];
}
  where
    back : (j : ℕ) → (h + j) - h ≡ j
    back j = omega arith

-- What the search finds is the peak. Assumes nothing.
use Rattle.std.specs.Prelude.{ℕ, ◌+◌, ◌%◌, ◌≤◌, ◌<◌, max, ◌≡◌, ◌≢◌, cond, List, ◌⊎◌, ℤ, pos, nat_abs, length, Some, None, Result, Ok, Err}
use Rattle.std.specs.Result.{result_ok}
use Rattle.std.proofs.Common.{sym, ap, ap₂, ◌∙◌, inl, inr, arith, eq-eqb, eqb-true, ne_eqb}
use Rattle.std.proofs.lemmas.Bool.{false≢true}
use Rattle.std.proofs.Math.Decide.{ℕ_discrete}
use Rattle.words.specs.Sum.{greatest_below}
use Rattle.words.specs.SumLaws.{total_ext}
use Rattle.area.specs.Area.{at, size_at}
use Rattle.hadamard.specs.Correlation.{constant_of}
use Rattle.hadamard.specs.Peak.{Alone, Shared, alone_count, alone_first, alone_greatest, greatest_bound, one_alone, shared_count}
use Rattle.peaks.specs.declared.Peak.{Peak}
use Rattle.peaks.specs.Peaks.{alike, joined, keys_below, IsPeak, PeakAt, Sizes}
use Rattle.peaks.specs.Keys.{keys_ext, keys_many, keys_one}
use Rattle.peaks.specs.Pairs.{Layout, greater_sign, pair_alone, pair_even, joined_layout, pairs_share, sizes}

-- ---- the peak of some values

module _ (n : ℕ) (c : ℕ → ℤ) where
  pub one_peak : {p : Peak} {u : ℕ} → Alone n (λ v. nat_abs (c v)) u → p.mask ≡ u → p.constant ≡ pos (constant_of (c u)) → IsPeak n c (Some p)
  one_peak a em ec = record {
    alone = sym (eq-eqb _ 1 (alone_count a));
    mask = em ∙ sym (alone_first a);
    constant = ec ∙ ap (λ (v : ℕ). pos (constant_of (c v))) (sym em);
  }

  pub no_peak : Shared n (λ v. nat_abs (c v)) → IsPeak n c None
  no_peak s = record { alone = sym (ne_eqb _ 1 (shared_count s)); mask = tt; constant = tt }

  -- at a pair of the greatest size, which has it alone unless one of its numbers is 0
  module _ {a b : ℕ} {x y : ℤ} (even : (nat_abs x ≡ 0) ⊎ (nat_abs y ≡ 0) → Shared n (λ v. nat_abs (c v)))
      (only : nat_abs x ≢ 0 → nat_abs y ≢ 0 → Alone n (λ v. nat_abs (c v)) (cond (alike x y) a b))
      (same_sign : constant_of (c (cond (alike x y) a b)) ≡ constant_of x) where
    no_pair : (p : Peak) → PeakAt a b x y (Err p) → IsPeak n c None
    no_pair p k = elim (ℕ_discrete (nat_abs x) 0) [
      | yes e ↦ no_peak (even (inl e))
      | no nx ↦ elim (ℕ_discrete (nat_abs y) 0) [
        | yes e ↦ no_peak (even (inr e))
        | no ny ↦ absurd (false≢true (k.alone nx ny))
      ]
    ]

    one_pair : (p : Peak) → PeakAt a b x y (Ok p) → IsPeak n c (Some p)
    one_pair p k =
        one_peak
        (only (λ e. false≢true (sym (k.first e))) (λ e. false≢true (sym (k.second e))))
        k.mask (k.constant ∙ ap pos (sym same_sign))

    pair_either : (r : Result Peak Peak) → PeakAt a b x y r → IsPeak n c (result_ok r)
    pair_either (Err p) k = no_pair p k
    pair_either (Ok p) k = one_pair p k

    pub pair_peak : {r : Result Peak Peak} → PeakAt a b x y r → IsPeak n c (result_ok r)
    pair_peak {r} k = pair_either r k

-- the peak's mask has the greatest absolute value
module _ {n : ℕ} {c : ℕ → ℤ} {p : Peak} (k : IsPeak n c (Some p)) where
  mask_alone : Alone n (λ u. nat_abs (c u)) p.mask
  mask_alone = rw k.mask (one_alone n (λ u. nat_abs (c u)) (eqb-true _ 1 (sym k.alone)))

  pub peak_below : p.mask < n
  peak_below = mask_alone.below

-- ---- the greatest size of h pairs, and its key

pub record Searched (h : ℕ) (x y : ℕ → ℤ) (key : ℕ) : Type 0 where
  pub some : 0 < h
  pub few : h ≤ 512
  pub keys : key ≡ keys_below h (sizes x y) (greatest_below h (sizes x y))

module _ {h : ℕ} {x y : ℕ → ℤ} {key : ℕ} (t : Searched h x y key) where
  pub searched_many : 131071 < key → IsPeak (h + h) (joined h x y) None
  searched_many l = no_peak (h + h) (joined h x y) (pairs_share (joined_layout h x y) (keys_many t.some t.few t.keys l))

  module _ (l : key ≤ 131071) where
    pub searched_one : Alone h (sizes x y) (key % 65536)
    searched_one = keys_one t.some t.few t.keys l

    pub searched_place : key % 65536 < h
    searched_place = searched_one.below

    module _ {r : Result Peak Peak}
        (k : PeakAt (key % 65536) (h + key % 65536) (x (key % 65536)) (y (key % 65536)) r) where
      abbrev j : ℕ
      j = key % 65536

      abbrev places : Layout h (h + h) x y (joined h x y)
      places = joined_layout h x y

      even : (nat_abs (x j) ≡ 0) ⊎ (nat_abs (y j) ≡ 0) → Shared (h + h) (λ v. nat_abs (joined h x y v))
      even = pair_even places j searched_place (λ i m. omega (arith, greatest_bound (sizes x y) h i m, alone_greatest searched_one))

      pub searched_peak : IsPeak (h + h) (joined h x y) (result_ok r)
      searched_peak = pair_peak (h + h) (joined h x y) even (pair_alone places j searched_one) (greater_sign places j searched_place) k

-- ---- the sizes in a list

-- zs holds f 0, .., f (n - 1)
pub record Holds (n : ℕ) (f : ℕ → ℕ) (zs : List ℤ) : Type 0 where
  pub long : length zs ≡ n
  pub each : (i : ℕ) → i < n → at zs i ≡ pos (f i)

module _ {n : ℕ} {f : ℕ → ℕ} {zs : List ℤ} (s : Holds n f zs) where
  pub holds_sizes : n ≤ 512 → ((i : ℕ) → i < n → f i ≤ 1024) → Sizes zs
  holds_sizes few small = record {
    few = omega (arith, s.long);
    whole = λ i l. each i l ∙ ap (λ (z : ℤ). pos (nat_abs z)) (sym (each i l));
    small = λ i l. omega (arith, ap nat_abs (each i l), small i (below l));
  }
    where
      below : {i : ℕ} → i < length zs → i < n
      below l = omega (arith, s.long)

      each : (i : ℕ) → i < length zs → at zs i ≡ pos (f i)
      each i l = s.each i (below l)

  pub holds_same : (i : ℕ) → i < n → size_at zs i ≡ f i
  holds_same i l = ap nat_abs (s.each i l)

  holds_greatest : greatest_below (length zs) (size_at zs) ≡ greatest_below n f
  holds_greatest = ap (λ (k : ℕ). greatest_below k (size_at zs)) s.long ∙ total_ext max 0 n _ _ holds_same

  holds_keys :
      {g : ℤ} {key : ℕ} → g ≡ pos (greatest_below (length zs) (size_at zs))
      → key ≡ keys_below (length zs) (size_at zs) (nat_abs g) → key ≡ keys_below n f (greatest_below n f)
  holds_keys eg ek = ek ∙ ap₂ (λ (k b : ℕ). keys_below k (size_at zs) b) s.long (ap nat_abs eg ∙ holds_greatest) ∙ keys_ext n _ _ _ holds_same

-- zs holds the sizes of the h pairs x i, y i
pub record Held (h : ℕ) (x y : ℕ → ℤ) (zs : List ℤ) : Type 0 where
  pub long : length zs ≡ h
  pub each : (i : ℕ) → i < h → at zs i ≡ pos (sizes x y i)

module _ {h : ℕ} {x y : ℕ → ℤ} {zs : List ℤ} (few : h ≤ 512) (s : Held h x y zs) where
  holds : Holds h (sizes x y) zs
  holds = record { long = s.long; each = s.each }

  pub held_sizes : ((i : ℕ) → i < h → sizes x y i ≤ 1024) → Sizes zs
  held_sizes small = holds_sizes holds few small

  pub held_searched :
      {g : ℤ} {key : ℕ} → 0 < h → g ≡ pos (greatest_below (length zs) (size_at zs))
      → key ≡ keys_below (length zs) (size_at zs) (nat_abs g) → Searched h x y key
  held_searched some eg ek = record { some = some; few = few; keys = holds_keys holds eg ek }

-- The greatest of finitely many numbers: where it is met, and whether at one place alone. Assumes nothing.
use Prim.Native.Nat.{ℕ, zero, suc, ◌+◌, ◌-◌, ◌≤◌, ◌<◌, max}
use Rattle.std.specs.Prelude.{◌≡◌, refl, ◌≢◌, ◌⊎◌, eqb}
use Rattle.std.proofs.Common.{sym, ap, ◌∙◌, inl, inr, not-suc-le-zero, le_refl, eq-eqb, ne_eqb, eqb-true}
use Rattle.std.proofs.Math.Logic.{⊎_elim}
use Rattle.std.proofs.Math.Decide.{ℕ_discrete}
use Rattle.std.proofs.Math.Numerals.{add-one}
use native.Mathlib.Omega.{arith}
use Rattle.std.proofs.lemmas.Bool.{eqb-false}
use Rattle.words.specs.Sum.{greatest_below, total}
use Rattle.words.specs.SumLaws.{le_or_lt, split_last, sum_prefix, sum_zero}
use Rattle.words.specs.Search.{First, where_first}
use Rattle.words.specs.Word.{indicator}
use Rattle.hadamard.specs.Correlation.{count_below, first_below}

-- u has more than every other place below n
pub record Alone (n : ℕ) (f : ℕ → ℕ) (u : ℕ) : Type 0 where
  pub below : u < n
  pub others : (v : ℕ) → v < n → v ≢ u → f v < f u

-- two different places below n have the same, and none has more
pub record Shared (n : ℕ) (f : ℕ → ℕ) : Type 0 where
  pub first : ℕ
  pub second : ℕ
  pub first_below : first < n
  pub second_below : second < n
  pub apart : first ≢ second
  pub equal : f first ≡ f second
  pub most : (v : ℕ) → v < n → f v ≤ f first

-- ---- the greatest

module _ (f : ℕ → ℕ) where
  pub greatest_more : (n : ℕ) → greatest_below (n + 1) f ≡ max (greatest_below n f) (f n)
  unfolding total
  greatest_more n = rw add-one

  -- it is a bound
  pub greatest_bound : (n i : ℕ) → i < n → f i ≤ greatest_below n f
  unfolding total
  greatest_bound zero i h = absurd (not-suc-le-zero h)
  greatest_bound (suc n) i h =
      split_last n (λ (j : ℕ). f j ≤ greatest_below (suc n) f) (λ j l. omega (arith, greatest_bound n j l)) (omega arith) i h

  -- and it is met
  pub greatest_met : (n : ℕ) → (i : ℕ) × (i < suc n) × (f i ≡ greatest_below (suc n) f)
  unfolding total
  greatest_met zero = (0, omega arith, omega arith)
  greatest_met (suc n) =
      let (i, l, e) = greatest_met n in
      ⊎_elim
      (λ (h : f (suc n) ≤ greatest_below (suc n) f). (i, omega arith, omega arith))
      (λ (h : greatest_below (suc n) f < f (suc n)). (suc n, omega arith, omega arith))
      (le_or_lt (f (suc n)) (greatest_below (suc n) f))

  -- what is a bound and is met
  pub greatest_at : (n u : ℕ) → u < n → ((v : ℕ) → v < n → f v ≤ f u) → greatest_below n f ≡ f u
  greatest_at zero u h most = absurd (not-suc-le-zero h)
  greatest_at (suc n) u h most = let (i, l, e) = greatest_met n in omega (arith, greatest_bound (suc n) u h, most i l)

-- ---- the first place with value x

module _ (f : ℕ → ℕ) (x n : ℕ) where
  first : First n (λ u. eqb (f u) x) (first_below n f x)
  first = where_first n (λ u. eqb (f u) x)

  pub first_within : first_below n f x ≤ n
  first_within = first.within

  not_before : (v : ℕ) → v < first_below n f x → f v ≢ x
  not_before v l = eqb-false (f v) x (first.before v l)

  is_found : first_below n f x < n → f (first_below n f x) ≡ x
  is_found l = eqb-true (f (first_below n f x)) x (first.found l)

-- ---- how many places have value x

module _ (f : ℕ → ℕ) (x : ℕ) where
  hit : {u : ℕ} → f u ≡ x → indicator (eqb (f u) x) ≡ 1
  hit {u} e = ap indicator (eq-eqb (f u) x e)

  miss : {u : ℕ} → f u ≢ x → indicator (eqb (f u) x) ≡ 0
  miss {u} k = ap indicator (ne_eqb (f u) x k)

  pub count_one : (n u : ℕ) → u < n → f u ≡ x → ((v : ℕ) → v < n → v ≢ u → f v ≢ x) → count_below n f x ≡ 1
  unfolding count_below total
  count_one zero u h e others = absurd (not-suc-le-zero h)
  count_one (suc n) u h e others = elim (ℕ_discrete n u) [
    | yes q ↦ omega (arith, sum_zero n (λ v. indicator (eqb (f v) x)) (λ v l. miss (others v (omega arith) (λ d. omega arith))), hit (ap f q ∙ e))
    | no k ↦ omega (arith, count_one n u (omega arith) e (λ v l. others v (omega arith)), miss (others n (le_refl (suc n)) k))
  ]

  pub count_two : (n u v : ℕ) → u < v → v < n → f u ≡ x → f v ≡ x → 2 ≤ count_below n f x
  unfolding count_below total
  count_two n u v h l eu ev =
      let at : ℕ → ℕ = λ i. indicator (eqb (f i) x) in
      omega (arith, sum_prefix n (suc v) at l, sum_prefix v (suc u) at h, hit eu, hit ev)

-- ---- one place alone, or two that share it

module _ {n : ℕ} {f : ℕ → ℕ} where
  pub alone_most : {u : ℕ} → Alone n f u → (v : ℕ) → v < n → f v ≤ f u
  alone_most {u} h v l = elim (ℕ_discrete v u) [
    | yes e ↦ omega (arith, ap f e)
    | no k ↦ omega (arith, h.others v l k)
  ]

  pub alone_greatest : {u : ℕ} → Alone n f u → greatest_below n f ≡ f u
  alone_greatest {u} h = greatest_at f n u h.below (alone_most h)

  pub alone_count : {u : ℕ} → Alone n f u → count_below n f (greatest_below n f) ≡ 1
  alone_count {u} h = rw (alone_greatest h) (count_one f (f u) n u h.below refl (λ v l k e. omega (arith, h.others v l k)))

  pub alone_first : {u : ℕ} → Alone n f u → first_below n f (greatest_below n f) ≡ u
  alone_first {u} h = rw (alone_greatest h) (go (le_or_lt v u))
    where
      v : ℕ
      v = first_below n f (f u)

      go : (v ≤ u) ⊎ (u < v) → v ≡ u
      go (inl l) = elim (ℕ_discrete v u) [
        | yes e ↦ e
        | no k ↦ absurd (omega (arith, h.below, is_found f (f u) n (omega (arith, h.below)), h.others v (omega (arith, h.below)) k))
      ]
      go (inr l) = absurd (not_before f (f u) n u l refl)

  pub shared_greatest : (h : Shared n f) → greatest_below n f ≡ f h.first
  shared_greatest h = greatest_at f n h.first h.first_below h.most

  pub shared_count : Shared n f → count_below n f (greatest_below n f) ≢ 1
  shared_count h e = go (le_or_lt h.first h.second)
    where
      x : ℕ
      x = f h.first

      once : count_below n f x ≡ 1
      once = ap (count_below n f) (sym (shared_greatest h)) ∙ e

      go : (h.first ≤ h.second) ⊎ (h.second < h.first) → ⊥
      go (inl l) = omega (arith, once, count_two f x n h.first h.second (omega (arith, h.apart)) h.second_below refl (sym h.equal))
      go (inr l) = omega (arith, once, count_two f x n h.second h.first l h.first_below (sym h.equal) refl)

-- the first place of the greatest is alone, or there is a second
pub peak : (n : ℕ) (f : ℕ → ℕ) → 0 < n → Alone n f (first_below n f (greatest_below n f)) ⊎ Shared n f
peak zero f h = absurd (not-suc-le-zero h)
peak (suc n) f h = go (le_or_lt (n - u) k)
  where
    g : ℕ
    g = greatest_below (suc n) f

    u : ℕ
    u = first_below (suc n) f g

    u-lt : u < suc n
    u-lt = let (i, l, e) = greatest_met f n in ⊎_elim (λ (q : u ≤ i). omega arith) (λ q. absurd (not_before f g (suc n) i q e)) (le_or_lt u i)

    -- the first place of those after u
    after : ℕ → ℕ
    after i = f (suc u + i)

    k : ℕ
    k = first_below (n - u) after g

    no_other : n - u ≤ k → (v : ℕ) → v < suc n → v ≢ u → f v ≢ g
    no_other l v lv ne e =
        ⊎_elim
        (λ (q : v ≤ u). not_before f g (suc n) v (omega arith) e)
        (λ (q : u < v). let back : suc u + (v - suc u) ≡ v = omega arith in not_before after g (n - u) (v - suc u) (omega arith) (ap f back ∙ e))
        (le_or_lt v u)

    go : (n - u ≤ k) ⊎ (k < n - u) → Alone (suc n) f u ⊎ Shared (suc n) f
    go (inl l) = inl (record { below = u-lt; others = λ v lv ne. omega (arith, no_other l v lv ne, greatest_bound f (suc n) v lv, is_found f g (suc n) u-lt) })
    go (inr l) = inr (record {
      first = u;
      second = suc u + k;
      first_below = u-lt;
      second_below = omega arith;
      apart = λ e. omega arith;
      equal = is_found f g (suc n) u-lt ∙ sym (is_found after g (n - u) l);
      most = λ v lv. omega (arith, greatest_bound f (suc n) v lv, is_found f g (suc n) u-lt);
    })

-- so it is met once exactly where some place is alone
pub one_alone : (n : ℕ) (f : ℕ → ℕ) → count_below n f (greatest_below n f) ≡ 1 → Alone n f (first_below n f (greatest_below n f))
unfolding count_below total
one_alone zero f e = absurd (omega arith)
one_alone (suc n) f e = ⊎_elim (λ a. a) (λ s. absurd (shared_count s e)) (peak (suc n) f (omega arith))

pub else_shared : (n : ℕ) (f : ℕ → ℕ) → 0 < n → count_below n f (greatest_below n f) ≢ 1 → Shared n f
else_shared n f h k = ⊎_elim (λ a. absurd (k (alone_count a))) (λ s. s) (peak n f h)

-- ---- places moved by an involution σ

module _ (n : ℕ) (f g σ : ℕ → ℕ) (within : (u : ℕ) → u < n → σ u < n) (back : (u : ℕ) → u < n → σ (σ u) ≡ u)
    (same : (u : ℕ) → u < n → g u ≡ f (σ u)) where
  value_at : (u : ℕ) → u < n → g (σ u) ≡ f u
  value_at u l = same (σ u) (within u l) ∙ ap f (back u l)

  pub alone_moved : {u : ℕ} → Alone n f u → Alone n g (σ u)
  alone_moved {u} h = record {
    below = within u h.below;
    others = λ v l ne. omega (arith, same v l, value_at u h.below, h.others (σ v) (within v l) (λ e. ne (sym (back v l) ∙ ap σ e)));
  }

  pub shared_moved : Shared n f → Shared n g
  shared_moved h = record {
    first = σ h.first;
    second = σ h.second;
    first_below = within _ h.first_below;
    second_below = within _ h.second_below;
    apart = λ e. h.apart (sym (back _ h.first_below) ∙ ap σ e ∙ back _ h.second_below);
    equal = value_at _ h.first_below ∙ h.equal ∙ sym (value_at _ h.second_below);
    most = λ v l. omega (arith, same v l, value_at _ h.first_below, h.most (σ v) (within v l));
  }

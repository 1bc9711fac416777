-- The gap of finitely many numbers: by any place of the greatest, and what it says of the places. Assumes nothing.
use Rattle.std.specs.Prelude.{ℕ, zero, suc, ◌+◌, ◌-◌, ◌≤◌, ◌<◌, max, ◌≡◌, refl, Bool, cond, ◌≢◌, eqb}
use Rattle.std.proofs.Common.{sym, ap, ap₂, ◌∙◌, ⊎_elim, not-suc-le-zero, arith, eq-eqb, ne_eqb, eqb-true}
use Rattle.std.proofs.Math.Decide.{ℕ_discrete}
use Rattle.std.proofs.lemmas.Bool.{eqb-false}
use Rattle.words.specs.Search.{First, where_first}
use Rattle.words.specs.Sum.{greatest_below, total}
use Rattle.words.specs.SumLaws.{le_or_lt, total_ext}
use Rattle.hadamard.specs.Correlation.{first_below}
use Rattle.hadamard.specs.Peak.{Alone, Shared, alone_most, greatest_at, greatest_bound, greatest_met}
use Rattle.gap.specs.Gap.{gap_below, others}

module _ (f : ℕ → ℕ) (u : ℕ) where
  pub others_at : others f u u ≡ 0
  others_at = rw (eq-eqb u u refl)

  pub others_else : {v : ℕ} → v ≢ u → others f u v ≡ f v
  others_else {v} k = rw (ne_eqb v u k)

  pub others_most : (v : ℕ) → others f u v ≤ f v
  others_most v = elim (ℕ_discrete v u) [ yes e ↦ omega (arith, ap (others f u) e, others_at) | no k ↦ omega (arith, others_else k) ]

pub bounded : (n : ℕ) (f : ℕ → ℕ) (x : ℕ) → ((v : ℕ) → v < n → f v ≤ x) → greatest_below n f ≤ x
unfolding total
bounded zero f x h = omega arith
bounded (suc n) f x h = omega (arith, bounded n f x (λ v l. h v (omega arith)), h n (omega arith))

-- u has the greatest of f 0, .., f (n - 1)
pub record Most (n : ℕ) (f : ℕ → ℕ) (u : ℕ) : Type 0 where
  pub below : u < n
  pub most : (v : ℕ) → v < n → f v ≤ f u

-- the first place of the greatest
pub first_most : (n : ℕ) (f : ℕ → ℕ) → 0 < n → Most n f (first_below n f (greatest_below n f))
first_most zero f h = absurd (not-suc-le-zero h)
first_most (suc n) f h = record { below = u-lt; most = λ v l. omega (arith, greatest_bound f (suc n) v l, eqb-true (f u) g (s.found u-lt)) }
  where
    g : ℕ
    g = greatest_below (suc n) f

    u : ℕ
    u = first_below (suc n) f g

    s : First (suc n) (λ v. eqb (f v) g) u
    s = where_first (suc n) (λ v. eqb (f v) g)

    u-lt : u < suc n
    u-lt = let (i, l, e) = greatest_met f n in ⊎_elim (λ (q : u ≤ i). omega arith) (λ q. absurd (eqb-false (f i) g (s.before i q) e)) (le_or_lt u i)

-- a place that has more than every other
alone_has : {n : ℕ} {f : ℕ → ℕ} {u : ℕ} → Alone n f u → Most n f u
alone_has h = record { below = h.below; most = alone_most h }

-- ---- the gap

-- by any place of the greatest: where it is not the first, both differences are 0
pub gap_at : {n : ℕ} {f : ℕ → ℕ} {u : ℕ} → Most n f u → gap_below n f ≡ f u - greatest_below n (others f u)
unfolding gap_below
gap_at {n} {f} {u} h = elim (ℕ_discrete u v) [
  | yes e ↦ ap₂ (λ (x t : ℕ). x - greatest_below n (others f t)) top (sym e)
  | no k ↦
      omega (
        arith,
        top,
        h.most v s.below,
        s.most u h.below,
        greatest_bound (others f v) n u h.below,
        others_else f v k,
        greatest_bound (others f u) n v s.below,
        others_else f u (λ e. k (sym e)),
      )
]
  where
    v : ℕ
    v = first_below n f (greatest_below n f)

    s : Most n f v
    s = first_most n f (omega (arith, h.below))

    top : greatest_below n f ≡ f u
    top = greatest_at f n u h.below h.most

-- every other place has less, by the gap at least
pub gap_least : {n : ℕ} {f : ℕ → ℕ} {u : ℕ} → Most n f u → (v : ℕ) → v < n → v ≢ u → 0 < gap_below n f → f v + gap_below n f ≤ f u
gap_least {n} {f} {u} h v l k some =
    omega (arith, gap_at h, greatest_bound (others f u) n v l, others_else f u k)

-- where every other place has 0, the gap is the greatest
pub gap_whole : {n : ℕ} {f : ℕ → ℕ} {u : ℕ} → u < n → ((v : ℕ) → v < n → v ≢ u → f v ≡ 0) → gap_below n f ≡ f u
gap_whole {n} {f} {u} l zero_else =
    let m : Most n f u =
    record { below = l; most = λ v k. elim (ℕ_discrete v u) [ yes e ↦ omega (arith, ap f e) | no d ↦ omega (arith, zero_else v k d) ] } in
    omega (
      arith,
      gap_at m,
      bounded n (others f u) 0
          (λ v k. elim (ℕ_discrete v u) [
            | yes e ↦ omega (arith, ap (others f u) e, others_at f u)
            | no d ↦ omega (arith, others_else f u d, zero_else v k d)
          ]),
    )

-- "A tie has gap 0."
pub gap_tie : {n : ℕ} {f : ℕ → ℕ} → Shared n f → gap_below n f ≡ 0
gap_tie {n} {f} h =
    let m : Most n f h.first = record { below = h.first_below; most = h.most } in
    omega (arith, gap_at m, greatest_bound (others f h.first) n h.second h.second_below, others_else f h.first (λ e. h.apart (sym e)), h.equal)

-- a place that has more than every other leaves a gap
pub gap_some : {n : ℕ} {f : ℕ → ℕ} {u : ℕ} → Alone n f u → 0 < f u → 0 < gap_below n f
gap_some {n} {f} {u} h pos =
    omega (
      arith,
      gap_at (alone_has h),
      bounded n (others f u) (f u - 1)
          (λ v l. elim (ℕ_discrete v u) [
            | yes e ↦ omega (arith, ap (others f u) e, others_at f u)
            | no k ↦ omega (arith, others_else f u k, h.others v l k)
          ]),
    )

pub gap_ext : (n : ℕ) (f g : ℕ → ℕ) → 0 < n → ((u : ℕ) → u < n → f u ≡ g u) → gap_below n f ≡ gap_below n g
gap_ext n f g h e = gap_at s ∙ ap₂ (λ (x y : ℕ). x - y) (e u s.below) (total_ext max 0 n _ _ left) ∙ sym (gap_at t)
  where
    u : ℕ
    u = first_below n f (greatest_below n f)

    s : Most n f u
    s = first_most n f h

    t : Most n g u
    t = record { below = s.below; most = λ v l. omega (arith, e v l, e u s.below, s.most v l) }

    left : (v : ℕ) → v < n → others f u v ≡ others g u v
    left v l = ap (cond (eqb v u) 0) (e v l)

-- ---- places moved by an involution σ

module _ (n : ℕ) (σ : ℕ → ℕ) (within : (u : ℕ) → u < n → σ u < n) (back : (u : ℕ) → u < n → σ (σ u) ≡ u) where
  greatest_moved : (h : ℕ → ℕ) → 0 < n → greatest_below n (λ v. h (σ v)) ≡ greatest_below n h
  greatest_moved h pos =
      let s = first_most n h pos in
      let u : ℕ = first_below n h (greatest_below n h) in
      let same : h (σ (σ u)) ≡ h u = ap h (back u s.below) in
      greatest_at (λ v. h (σ v)) n (σ u) (within u s.below) (λ v l. omega (arith, s.most (σ v) (within v l)))
      ∙ same ∙ sym (greatest_at h n u s.below s.most)

  pub gap_moved : (f g : ℕ → ℕ) → 0 < n → ((u : ℕ) → u < n → g u ≡ f (σ u)) → gap_below n g ≡ gap_below n f
  gap_moved f g pos same =
      gap_at moved ∙ ap₂ (λ (x y : ℕ). x - y) value (total_ext max 0 n _ _ left ∙ greatest_moved (others f u) pos) ∙ sym (gap_at s)
    where
      u : ℕ
      u = first_below n f (greatest_below n f)

      s : Most n f u
      s = first_most n f pos

      value : g (σ u) ≡ f u
      value = same (σ u) (within u s.below) ∙ ap f (back u s.below)

      moved : Most n g (σ u)
      moved = record { below = within u s.below; most = λ v l. omega (arith, same v l, value, s.most (σ v) (within v l)) }

      left : (v : ℕ) → v < n → others g (σ u) v ≡ others f u (σ v)
      left v l = elim (ℕ_discrete (σ v) u) [
        | yes e ↦
            let q : v ≡ σ u = sym (back v l) ∙ ap σ e in
            ap (λ (t : Bool). cond t 0 (g v)) (eq-eqb v (σ u) q) ∙ sym (ap (λ (t : Bool). cond t 0 (f (σ v))) (eq-eqb (σ v) u e))
        | no k ↦ others_else g (σ u) (λ e. k (ap σ e ∙ back u s.below)) ∙ same v l ∙ sym (others_else f u k)
      ]

-- The number, the rounds and the leaf count of a reading of confidences: the leaf count is the same for all values. Assumes nothing.
use Prim.Native.Nat.{ℕ, zero, suc, pred, ◌-◌, ◌*◌, ◌^◌, ◌≤◌}
use Rattle.std.specs.Prelude.{◌≡◌, refl, List, ℤ}
use Rattle.std.proofs.Common.{sym, ap, ap₂, ◌∙◌, inl, inr, ⊎_elim, mul-one, mul_assoc, mul_comm, mul_left_comm, one-mul, pow-suc, arith}
use Rattle.std.proofs.Math.Numerals.{unary_clauses}
use Rattle.area.specs.Area.{at}
use Rattle.rule.specs.Counts.{Leaf, most_leaves}
use Rattle.rule.proofs.Counts.{leaf_leaves, order0_leaf, order1_leaf}
use Rattle.rule.specs.Decoding.{refusal_of}
use Rattle.rule.specs.Reading.{Outcome, accepted, leaves_of, refused}
use Rattle.words.specs.Sum.{total}
use Rattle.words.specs.SumLaws.{sum_same, total_ext}
use Rattle.confidences.specs.Confidences.{leaves_after, project_values, reading, round_leaves, values_after}
use Rattle.confidences.proofs.Rounds.{ended_cases, ended_leaves}
use Rattle.confidences.specs.Counts.{full_leaves, AllRounds, ByNoise}

-- ---- numbers and rounds

-- orders 0 and 1, as for bits: no round, the order is the leaf count, and a refusal is 9
pub reading_leaf : (r m limit : ℕ) (x : List ℤ) → r ≤ 1 → Leaf r (reading r m limit x)
unfolding reading
reading_leaf zero m limit x h = order0_leaf m (at x)
reading_leaf (suc zero) m limit x h = order1_leaf m (at x)
reading_leaf (suc (suc r)) m limit x h = absurd (omega arith)

pub reading_rounds : (r m limit : ℕ) (x : List ℤ) → 2 ≤ r → AllRounds limit (reading r m limit x)
unfolding reading
reading_rounds zero m limit x h = absurd (omega arith)
reading_rounds (suc zero) m limit x h = absurd (omega arith)
reading_rounds (suc (suc r)) m limit x h =
    ended_cases m (suc (suc r)) _ limit _ (AllRounds limit) (λ z. (inl refl, refl)) (λ z e. refl) (λ z. (inr refl, refl))

leaf_noise : (r : ℕ) (o : Outcome) → Leaf r o → ByNoise o
leaf_noise r (accepted d k l) h = tt
leaf_noise r (refused e k l) h = inl h.0

pub reading_noise : (r m limit : ℕ) (x : List ℤ) → ByNoise (reading r m limit x)
unfolding reading
reading_noise zero m limit x = leaf_noise 0 (reading 0 m limit x) (reading_leaf 0 m limit x (omega arith))
reading_noise (suc zero) m limit x = leaf_noise 1 (reading 1 m limit x) (reading_leaf 1 m limit x (omega arith))
reading_noise (suc (suc r)) m limit x =
    ended_cases m (suc (suc r)) _ limit _ ByNoise (λ z. inr (inr refl)) (λ z e. tt) (λ z. inr (inl refl))

-- its number
pub noise_by : (P : ℕ → Type 0) → P 9 → P 11 → P 17 → (e k l : ℕ) → ByNoise (refused e k l) → P e
noise_by P a b c e k l n = ⊎_elim (λ q. rw q a) (λ z. ⊎_elim (λ q. rw q b) (λ q. rw q c) z) n

-- ---- the leaf count

module _ (m : ℕ) (lower : List ℤ → Outcome) (b : ℕ) (same : (v : List ℤ) → leaves_of (lower v) ≡ b) where
  round_leaves_lem : (x : List ℤ) → round_leaves m lower x ≡ (2 ^ suc m - 1) * b
  unfolding round_leaves
  round_leaves_lem x = sum_same (2 ^ suc m - 1) b _ (λ i l. same (project_values m (suc i) x))

  after_leaves : (k : ℕ) (x : List ℤ) → leaves_after m lower k x ≡ k * ((2 ^ suc m - 1) * b)
  unfolding leaves_after
  after_leaves k x = sum_same k _ _ (λ i l. round_leaves_lem (values_after m lower i x))

-- the leaf count of every reading is the greatest that bits can have
pub reading_most : (r m limit : ℕ) (x : List ℤ) → leaves_of (reading r m limit x) ≡ most_leaves r m limit
unfolding reading most_leaves
reading_most zero m limit x = leaf_leaves 0 (reading 0 m limit x) (reading_leaf 0 m limit x (omega arith))
reading_most (suc zero) m limit x = leaf_leaves 1 (reading 1 m limit x) (reading_leaf 1 m limit x (omega arith))
reading_most (suc (suc r)) m limit x =
    ended_leaves m (suc (suc r)) _ limit _
    ∙ after_leaves (pred m) (reading (suc r) (pred m) limit) (most_leaves (suc r) (pred m) limit) (reading_most (suc r) (pred m) limit) limit x

-- which is the product
product_first : (r : ℕ) (f : ℕ → ℕ) → total ◌*◌ 1 (suc r) f ≡ f 0 * total ◌*◌ 1 r (λ i. f (suc i))
unfolding total
product_first zero f = one-mul (f 0) ∙ sym (mul-one (f 0))
product_first (suc r) f = ap (λ (x : ℕ). x * f (suc r)) (product_first r f) ∙ mul_assoc (f 0) _ (f (suc r))

regroup : (l a k p : ℕ) → l * (a * (k * p)) ≡ k * l * (a * p)
regroup l a k p = simp (mul_assoc, mul_comm, mul_left_comm)

full_step : (r m limit : ℕ) → limit * ((2 ^ suc m - 1) * full_leaves (suc r) m limit) ≡ full_leaves (suc (suc r)) (suc m) limit
unfolding full_leaves
full_step r m limit =
    let first : suc m ≡ suc m - 0 = omega arith in
    regroup limit (2 ^ suc m - 1) (limit ^ r) _
    ∙ ap₂ ◌*◌ (sym (pow-suc limit r))
    (ap₂ (λ (j x : ℕ). (2 ^ j - 1) * x) first (total_ext ◌*◌ 1 r _ (λ i. 2 ^ (suc m - suc i) - 1) (λ i l. ap (λ (j : ℕ). 2 ^ j - 1) (omega arith)))
    ∙ sym (product_first r (λ i. 2 ^ (suc m - i) - 1)))

full_none : (m limit : ℕ) → 0 ≡ full_leaves 0 m limit
unfolding full_leaves
full_none m limit = refl

full_one : (m limit : ℕ) → 1 ≡ full_leaves 1 m limit
unfolding full_leaves total
full_one m limit = simp unary_clauses

pub most_full : (r m limit : ℕ) → r ≤ m → most_leaves r m limit ≡ full_leaves r m limit
unfolding most_leaves
most_full zero m limit h = full_none m limit
most_full (suc zero) m limit h = full_one m limit
most_full (suc (suc r)) zero limit h = absurd (omega arith)
most_full (suc (suc r)) (suc m) limit h =
    ap (λ (x : ℕ). limit * ((2 ^ suc m - 1) * x)) (most_full (suc r) m limit (omega arith)) ∙ full_step r m limit

-- the same for all values
pub reading_leaves : (r m limit : ℕ) (x : List ℤ) → r ≤ m → leaves_of (reading r m limit x) ≡ full_leaves r m limit
reading_leaves r m limit x h = reading_most r m limit x ∙ most_full r m limit h

-- "17, .. with the round limit and the full leaf count"
erased : (limit : ℕ) (o : Outcome) → AllRounds limit o → refusal_of o ≡ 17 → o ≡ refused 17 limit (leaves_of o)
erased limit (accepted d k l) h e = absurd (omega arith)
erased limit (refused n k l) h e = ap₂ (λ (i j : ℕ). refused i j l) e h.1

pub reading_erased : (r m limit : ℕ) (x : List ℤ) → 2 ≤ r → r ≤ m → refusal_of (reading r m limit x) ≡ 17 → reading r m limit x ≡ refused 17 limit (full_leaves r m limit)
reading_erased r m limit x two h e =
    erased limit (reading r m limit x) (reading_rounds r m limit x two) e ∙ ap (refused 17 limit) (reading_leaves r m limit x h)

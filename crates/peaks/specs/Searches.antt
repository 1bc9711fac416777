-- The greatest of some sizes and how often one occurs, as a loop finds them. Assumes nothing.
use Rattle.std.specs.Prelude.{ℕ, ◌+◌, ◌^◌, ◌≤◌, ◌<◌, ◌≡◌, Bool, ◌≢◌, eqb, ℤ, pos, nat_abs}
use Rattle.std.proofs.Math.Path.{refl, ap}
use Rattle.std.proofs.Common.{sym, ◌∙◌, to_z, of_z, eq-eqb, ne_eqb}
use Rattle.std.proofs.Math.Bool.{true, false}
use native.Mathlib.Omega.{arith}
use Rattle.std.specs.Int.Signed.{lt_z}
use Rattle.std.specs.Int.{w32}
use Rattle.words.specs.Sum.{greatest_below, total}
use Rattle.words.specs.SumLaws.{sum_more, sum_most}
use Rattle.words.specs.Word.{indicator}
use Rattle.area.specs.Numbers.{stored}
use Rattle.hadamard.specs.Correlation.{count_below}
use Rattle.hadamard.specs.Peak.{greatest_more}
use Rattle.peaks.specs.Casts.{size_held, size_below, size_above}

-- ---- the greatest of f 0, .., f (n - 1)

pub record Greatest (n : ℕ) (f : ℕ → ℕ) (a : ℕ) : Type 0 where
  pub small : a < 2 ^ 30
  pub is : a ≡ greatest_below n f

pub greatest_none : {f : ℕ → ℕ} → Greatest 0 f 0
unfolding total
greatest_none = record { small = omega arith; is = refl }

pub greatest_read : {n m : ℕ} {f : ℕ → ℕ} {a : ℕ} → Greatest n f a → n ≡ m → to_z w32 a ≡ pos (greatest_below m f)
greatest_read {n} {m} {f} {a} g e = size_held a (omega (arith, g.small)) ∙ ap pos (g.is ∙ ap (λ (k : ℕ). greatest_below k f) e)

-- a turn, whose number is z
module _ {n : ℕ} {f : ℕ → ℕ} {a : ℕ} (g : Greatest n f a) {z : ℤ} (e : z ≡ pos (f n)) (small : f n < 2 ^ 30) where
  whole : z ≡ pos (nat_abs z)
  whole = e ∙ ap (λ (y : ℤ). pos (nat_abs y)) (sym e)

  old_small : a < 2 ^ 31
  old_small = omega (arith, g.small)

  new_small : nat_abs z < 2 ^ 31
  new_small = omega (arith, ap nat_abs e)

  pub greatest_new : {b : ℕ} → lt_z (to_z w32 a) (stored z) ≡ true → b ≡ of_z w32 z → Greatest (n + 1) f b
  greatest_new {b} t eb = record {
    small = omega (arith, now);
    is = omega (arith, now, g.is, greatest_more f n, ap nat_abs e, size_below a z old_small new_small whole t);
  }
    where
      now : b ≡ f n
      now = eb ∙ ap (of_z w32) e

  pub greatest_kept : {b : ℕ} → lt_z (to_z w32 a) (stored z) ≡ false → b ≡ a → Greatest (n + 1) f b
  greatest_kept t eb = record {
    small = omega (arith, eb, g.small);
    is = omega (arith, eb, g.is, greatest_more f n, ap nat_abs e, size_above a z old_small new_small whole t);
  }

-- ---- how many of f 0, .., f (n - 1) are x

module _ (f : ℕ → ℕ) (x : ℕ) where
  pub count_none : count_below 0 f x ≡ 0
  unfolding count_below total
  count_none = refl

  pub count_hit : (n : ℕ) → f n ≡ x → count_below (n + 1) f x ≡ count_below n f x + 1
  unfolding count_below
  count_hit n e = sum_more n _ ∙ ap (λ (b : ℕ). count_below n f x + b) (ap indicator (eq-eqb (f n) x e))

  pub count_miss : (n : ℕ) → f n ≢ x → count_below (n + 1) f x ≡ count_below n f x
  unfolding count_below
  count_miss n k = sum_more n _ ∙ omega (arith, ap indicator (ne_eqb (f n) x k))

  pub count_most : (n : ℕ) → count_below n f x ≤ n
  unfolding count_below
  count_most n = omega (arith, sum_most n 1 (λ u. indicator (eqb (f u) x)) (λ i l. one (eqb (f i) x)))
    where
      one : (t : Bool) → indicator t ≤ 1
      one true = omega arith
      one false = omega arith

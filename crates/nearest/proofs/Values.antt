-- The values of the word in the area. Assumes nothing.
use Prim.Native.Nat.{ℕ, ◌≤◌, ◌<◌}
use mathlib.Core.Path.{◌≡◌, sym, ap, ◌∙◌}
use mathlib.Core.List.{List}
use native.Mathlib.Omega.{arith}
use lib.IntN.{ℤ, nat_abs}
use Rattle.words.specs.Word.{bit}
use Rattle.area.specs.Area.{at, word_of}
use Rattle.area.proofs.AreaLaws.{bit-word_of}
use Rattle.hadamard.specs.Correlation.{sign, values}
use Rattle.hadamard.specs.CorrelationLaws.{sign_size}

module _ (n : ℕ) (xs : List ℤ) where
  -- the sign of the bit at place i, which is p
  pub value_at : (i p : ℕ) → i ≡ p → p < n → sign (nat_abs (at xs i)) ≡ values (word_of n xs) p
  value_at i p e l = ap (λ (j : ℕ). sign (nat_abs (at xs j))) e ∙ ap sign (sym (bit-word_of n xs p l))

  pub value_size : (p : ℕ) → nat_abs (values (word_of n xs) p) ≤ 1
  value_size p = omega (arith, sign_size (bit (word_of n xs) p))

-- Numbers that stand for bits, whichever way. Assumes nothing.
use Rattle.std.specs.Prelude.{ℕ, ◌≤◌, ◌<◌, List, ℤ, length}
use Rattle.area.specs.Area.{at}

-- the first n numbers are such
pub record Marked (Right : ℤ → Type 0) (n : ℕ) (xs : List ℤ) : Type 0 where
  pub room : n ≤ length xs
  pub each : (p : ℕ) → p < n → Right (at xs p)

-- the bit at a place
abbrev pub mark_at : (ℤ → ℕ) → List ℤ → ℕ → ℕ
mark_at bit_of xs p = bit_of (at xs p)

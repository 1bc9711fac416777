-- The transform of each half of a list. Assumes nothing.
use Rattle.std.specs.Prelude.{ℕ, ◌+◌, ◌^◌, ◌<◌, ◌≡◌, List, ℤ, length}
use Rattle.area.specs.Area.{at}
use Rattle.hadamard.specs.Correlation.{correlation}

-- ys has the correlations of each half of xs
pub record HalvesDone (k : ℕ) (xs ys : List ℤ) : Type 0 where
  pub long : length ys ≡ length xs
  pub first : (u : ℕ) → u < 2 ^ k → at ys u ≡ correlation k (at xs) u
  pub second : (u : ℕ) → u < 2 ^ k → at ys (2 ^ k + u) ≡ correlation k (λ p. at xs (2 ^ k + p)) u

-- What the transform asks. Assumes nothing.
use Rattle.std.specs.Prelude.{ℕ, ◌*◌, ◌^◌, ◌<◌, ◌≡◌, List, length, ℤ, nat_abs}
use Rattle.area.specs.Area.{at}

-- 2 ^ m numbers, small enough that m levels of sums fit 32 bits
pub record Summable (m : ℕ) (a : List ℤ) : Type 0 where
  pub size : length a ≡ 2 ^ m
  pub small : (i : ℕ) → nat_abs (at a i) * 2 ^ m < 2 ^ 31

-- Blocks of values that a call accepts. Assumes nothing.
use Prim.Native.Nat.{ℕ, ◌≤◌}
use Rattle.std.specs.Prelude.{List, ℤ}
use Rattle.std.proofs.Math.IntN.{nat_abs}
use Rattle.area.specs.Area.{at}
use Rattle.confidences.specs.Confidences.{greatest}

-- every value is in −2,047 to 2,047
pub record InRange (x : List ℤ) : Type 0 where
  pub small : (p : ℕ) → nat_abs (at x p) ≤ greatest

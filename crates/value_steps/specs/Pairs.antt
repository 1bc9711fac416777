-- What the parts of a projection by blocks of 4 cosets ask and promise. Assumes nothing.
use Rattle.std.specs.Prelude.{ℕ, ◌+◌, ◌≤◌, ◌<◌, List, ℤ, nat_abs, length}
use Rattle.area.specs.Area.{at}
use Rattle.confidences.specs.Confidences.{greatest, joint}

-- confidences at x and y
pub record ValuePair (x y : ℕ) (xs : List ℤ) : Type 0 where
  pub first : x < length xs
  pub second : y < length xs
  pub one : nat_abs (at xs x) ≤ greatest
  pub two : nat_abs (at xs y) ≤ greatest

-- confidences from p to p + 3 and from z to z + 3, and places c to c + 3
pub record ValueBlocks (c p z l : ℕ) (xs : List ℤ) : Type 0 where
  pub low : l < 4
  pub room : c + 4 ≤ length xs
  pub place : p + 4 ≤ length xs
  pub partner : z + 4 ≤ length xs
  pub one : (i : ℕ) → i < 4 → nat_abs (at xs (p + i)) ≤ greatest
  pub two : (i : ℕ) → i < 4 → nat_abs (at xs (z + i)) ≤ greatest

-- the joint value of two places
abbrev pub pair_joint : List ℤ → ℕ → ℕ → ℤ
pair_joint xs x y = joint (at xs x) (at xs y)

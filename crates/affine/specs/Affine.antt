-- First order codewords as numbers, and places of them repeated. Assumes nothing.
use Rattle.std.specs.Prelude.{ℕ, ◌+◌, ◌%◌, ◌≤◌, ◌<◌, List, length, ℤ, pos, nat_abs}
use Rattle.words.specs.Ones.{affine_bit}
use Rattle.area.specs.Area.{at, IsBit}

-- the number at place p of the codeword of mask u and constant s
abbrev pub affine_at : ℕ → ℤ → ℕ → ℤ
affine_at u s p = pos (affine_bit u (nat_abs s) p)

-- the bit at place i + j of a with the bit t added
abbrev pub repeated : ℤ → ℕ → List ℤ → ℕ → ℤ
repeated t i a j = pos ((nat_abs (at a (i + j)) + nat_abs t) % 2)

-- bits at the k places from i on, and k places after them, from b on, for them with the bit t added
pub record Repeats (k i b : ℕ) (t : ℤ) (a : List ℤ) : Type 0 where
  pub added : IsBit t
  pub after : i + k ≤ b
  pub room : b + k ≤ length a
  pub bits : (j : ℕ) → j < k → IsBit (at a (i + j))

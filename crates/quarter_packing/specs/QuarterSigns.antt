-- The signs of a word's quarters, four to a number. Assumes nothing.
use Rattle.std.specs.Prelude.{ℕ, ◌+◌, ◌*◌, ◌%◌, ◌≤◌, ◌≡◌, List, ℤ, nat_abs, length}
use Rattle.area.specs.Area.{at, Bits}
use Rattle.hadamard.specs.Correlation.{sign}
use Rattle.quads.specs.Quads.{quad}

-- the signs of the bits i, q + i, 2 * q + i and 3 * q + i
abbrev pub quad_signs : ℕ → List ℤ → ℕ → ℤ
quad_signs q xs i =
    quad (sign (nat_abs (at xs i))) (sign (nat_abs (at xs (q + i)))) (sign (nat_abs (at xs (2 * q + i)))) (sign (nat_abs (at xs (3 * q + i))))

-- a word of four quarters of q bits in the front half of the area; q is a multiple of 4, so that the code takes four at a time
pub record QuarterBits (q : ℕ) (xs : List ℤ) : Type 0 where
  pub few : q ≤ 32
  pub fours : q % 4 ≡ 0
  pub room : 8 * q ≡ length xs
  pub bits : Bits (4 * q) xs

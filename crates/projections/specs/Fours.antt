-- Blocks of 4 cosets: what the functions on them ask and promise. Assumes nothing.
use Rattle.std.specs.Prelude.{ℕ, ◌+◌, ◌%◌, ◌≤◌, ◌<◌, ◌≡◌, List, ℤ, pos, nat_abs, length}
use Rattle.std.specs.Int.Bits.{bit_xor}
use Rattle.area.specs.Area.{at, IsBit}
use Rattle.direction.specs.Direction.{highest}

-- the direction w + l, from 4 on, with its highest one at h: l its two lowest digits
pub record InFours (h w l : ℕ) : Type 0 where
  pub whole : w % 4 ≡ 0
  pub some : 4 ≤ w
  pub low : l < 4
  pub top : h ≡ highest (w + l)

-- the sum of two bits
abbrev pub bit_sum : ℤ → ℤ → ℤ
bit_sum x y = pos ((nat_abs x + nat_abs y) % 2)

-- entry i of xs and entry i XOR l of ys are bits
pub record BitPair (i l : ℕ) (xs ys : List ℤ) : Type 0 where
  pub first : i < length xs
  pub second : bit_xor i l < length ys
  pub one : IsBit (at xs i)
  pub two : IsBit (at ys (bit_xor i l))

-- the places p to p + 3 and z to z + 3 hold bits, and there are places c to c + 3
pub record TwoBlocks (c p z l : ℕ) (xs : List ℤ) : Type 0 where
  pub low : l < 4
  pub room : c + 4 ≤ length xs
  pub place : p + 4 ≤ length xs
  pub partner : z + 4 ≤ length xs
  pub one : (i : ℕ) → i < 4 → IsBit (at xs (p + i))
  pub two : (i : ℕ) → i < 4 → IsBit (at xs (z + i))

-- the sum of the bits at p + i and at its partner
abbrev pub pair_sum : ℕ → ℕ → ℕ → List ℤ → ℕ → ℤ
pair_sum p z l xs i = bit_sum (at xs (p + i)) (at xs (z + bit_xor i l))

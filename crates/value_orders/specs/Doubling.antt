-- First order codewords by their signs, each half written from the one below it. Assumes nothing.
use Rattle.std.specs.Prelude.{ℕ, ◌+◌, ◌%◌, ◌^◌, ◌≤◌, ◌<◌, ◌≡◌, List, ℤ, pos, negsuc, neg_ℤ, length}
use Rattle.area.specs.Area.{at}
use Rattle.hadamard.specs.Correlation.{constant_of}

-- the sign of a bit: 0 or -1
pub data IsSign : ℤ → Type 0 where
  plus : IsSign (pos 0)
  minus : IsSign (negsuc 0)

-- the sign z, turned where t is -1
abbrev pub turned : ℤ → ℤ → ℤ
turned t z = neg_ℤ (pos ((constant_of z + constant_of t) % 2))

-- h signs, and h places after them for them turned by t
pub record Doubles (h : ℕ) (t : ℤ) (xs : List ℤ) : Type 0 where
  pub room : h + h ≤ length xs
  pub turn : IsSign t
  pub signs : (i : ℕ) → i < h → IsSign (at xs i)

pub record PowerOfTwo (n : ℕ) : Type 0 where
  pub exponent : ℕ
  pub power : n ≡ 2 ^ exponent

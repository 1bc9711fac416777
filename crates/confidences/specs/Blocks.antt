-- Blocks of values of exponent m, of no value 0, and clean ones. Assumes nothing.
use Prim.Native.Nat.{ℕ, ◌^◌, ◌<◌}
use Rattle.std.specs.Prelude.{◌≡◌, List, ℤ, nat_abs, length}
use Rattle.area.specs.Area.{at}
use Rattle.code.specs.Code.{IsCodeword}
use Rattle.confidences.specs.Confidences.{signs_of}
use Rattle.confidences.specs.InRange.{InRange}

pub record IsBlock (m : ℕ) (x : List ℤ) : Type 0 where
  pub size : length x ≡ 2 ^ m

-- no value is 0
abbrev pub Nonzero : ℕ → List ℤ → Type 0
Nonzero m x = (p : ℕ) → p < 2 ^ m → 0 < nat_abs (at x p)

-- values in range, none of them 0, whose signs are a codeword
pub record CleanBlock (m r : ℕ) (x : List ℤ) : Type 0 where
  pub block : IsBlock m x
  pub range : InRange x
  pub some : Nonzero m x
  pub codeword : IsCodeword m r (signs_of m x)

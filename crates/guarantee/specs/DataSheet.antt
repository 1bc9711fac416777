-- A row of the data sheet, and what the definitions give for it. Assumes nothing.
use Rattle.std.specs.Prelude.{ℕ, ◌-◌, ◌^◌, Bool, leb}
use Rattle.guarantee.specs.Guarantee.{enough, surely}

-- m, r, the distance, the places surely mended, the product, and whether it is at most 1,000,000
pub data Line : Type 0 where
  line : ℕ → ℕ → ℕ → ℕ → ℕ → Bool → Line

abbrev pub line_of : ℕ → ℕ → Line
line_of m r = line m r (2 ^ (m - r)) (surely m r) (enough m r) (leb (enough m r) 1000000)

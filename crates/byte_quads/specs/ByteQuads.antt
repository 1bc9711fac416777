-- A block's bytes, four to a number. Assumes nothing.
use Rattle.std.specs.Prelude.{ℕ, ◌+◌, ◌*◌, ◌<◌, List, ℤ}
use Rattle.words.specs.Word.{bit}
use Rattle.hadamard.specs.Correlation.{values}
use Rattle.quads.specs.Quads.{quad}

-- the values at places 4 i to 4 i + 3
abbrev pub quad_at : List ℕ → ℕ → ℤ
quad_at w i = quad (values w (4 * i)) (values w (4 * i + 1)) (values w (4 * i + 2)) (values w (4 * i + 3))

-- every byte is a bit
pub record Bytes (w : List ℕ) : Type 0 where
  pub bits : (p : ℕ) → bit w p < 2

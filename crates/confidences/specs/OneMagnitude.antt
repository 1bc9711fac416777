-- Values of one magnitude with the signs of a word. Assumes nothing.
use Prim.Native.Nat.{ℕ, ◌^◌, ◌<◌}
use Rattle.std.specs.Prelude.{◌≡◌, List, ℤ}
use Rattle.std.proofs.Math.IntN.{pos}
use Rattle.words.specs.Word.{bit}
use Rattle.area.specs.Area.{at}
use Rattle.hadamard.specs.Correlation.{signed}
use Rattle.confidences.specs.Blocks.{IsBlock}

-- the values x are v where the word w is 0 and −v where it is 1
pub record OneMagnitude (m v : ℕ) (w : List ℕ) (x : List ℤ) : Type 0 where
  pub block : IsBlock m x
  pub each : (p : ℕ) → p < 2 ^ m → at x p ≡ signed (bit w p) (pos v)

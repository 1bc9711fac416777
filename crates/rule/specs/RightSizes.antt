-- Calls of the decoder in buffers of the right sizes. Assumes nothing.
use Rattle.std.specs.Prelude.{ℕ, ◌*◌, ◌^◌, ◌≤◌, ◌≡◌, List}
use Rattle.words.specs.Word.{IsWord}

-- "The right sizes are n for input and output and at least 8 × n numbers for the area"; the input is a word
pub record RightSizes (m : ℕ) (word : List ℕ) (room area : ℕ) : Type 0 where
  pub input : IsWord m word
  pub output : room ≡ 2 ^ m
  pub lent : 8 * 2 ^ m ≤ area

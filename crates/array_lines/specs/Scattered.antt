-- A column of an array written. Assumes nothing.
use Rattle.std.specs.Prelude.{ℕ, ◌+◌, ◌*◌, ◌<◌, ◌≡◌, List, length}
use Rattle.words.specs.Word.{bit}

-- v is w with the first n entries of line in column j, in rows of a
pub record Scattered (line : List ℕ) (j a n : ℕ) (w v : List ℕ) : Type 0 where
  pub long : length v ≡ length w
  pub here : (i : ℕ) → i < n → bit v (i * a + j) ≡ bit line i
  pub other : (q : ℕ) → ((i : ℕ) → i < n → q ≡ i * a + j → ⊥) → bit v q ≡ bit w q

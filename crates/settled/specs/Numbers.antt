-- The codeword test of a word in the area of numbers. Assumes nothing.
use Rattle.std.specs.Prelude.{ℕ, ◌^◌, ◌≡◌, Bool, List, ℤ}
use Rattle.area.specs.Area.{SameFront, word_of}
use Rattle.code.specs.Code.{codeword_test}

-- the test's answer b, and that the word stays in the front
pub record TestedIn (m r : ℕ) (xs ys : List ℤ) (b : Bool) : Type 0 where
  pub answer : b ≡ codeword_test m r (word_of (2 ^ m) xs)
  pub kept : SameFront (2 ^ m) xs ys

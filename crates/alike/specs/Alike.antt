-- Demand 3, of two calls of the decoder: document 01, "Agreement on contracts". Assumes nothing.
use Rattle.std.specs.Prelude.{ℕ, ◌*◌, ◌^◌, ◌≤◌, ◌≡◌, List, length, ℤ}
use Rattle.words.specs.Word.{IsWord, add_words}
use Rattle.refusals.specs.Refusals.{Decoded}
use Rattle.code.specs.Code.{IsCodeword}
use Rattle.rule.specs.Decoding.{number_in}
use Rattle.rule.specs.Calls.{values_of}

-- "Two words differ by a codeword when their sum is that codeword."
pub record Differ (m r : ℕ) (w w' : List ℕ) : Type 0 where
  pub first : IsWord m w
  pub second : IsWord m w'
  pub codeword : IsCodeword m r (add_words w w')

-- "The right sizes are n for input and output and at least 8 × n numbers for the area; the two areas need not be equally long."
pub record Fit (m : ℕ) (out : List ℕ) (area : List ℤ) : Type 0 where
  pub output : length out ≡ 2 ^ m
  pub lent : 8 * 2 ^ m ≤ length area

-- "Compared are whether each call is accepted, the refusal's number, the rounds and the leaf count as returned, and on acceptance all n
-- output bytes"; document 02, request 3: the places mended too. The answers a and a' to the words w and w', which leave the outputs v and v'
pub record Alike (w w' v v' : List ℕ) (a a' : Decoded) : Type 0 where
  pub answer : values_of a' ≡ values_of a
  pub output : number_in (values_of a) ≡ 0 → v' ≡ add_words v (add_words w w')

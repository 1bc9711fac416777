-- What the gap promises of two calls of the decoder at order 1: document 02, request 13. Assumes nothing.
use Rattle.std.specs.Prelude.{ℕ, ◌*◌, ◌<◌, ◌≡◌, List}
use Rattle.words.specs.Word.{IsWord, distance}
use Rattle.refusals.specs.Refusals.{Decoded}
use Rattle.code.specs.Code.{IsCodeword}
use Rattle.rule.specs.Decoding.{number_in}
use Rattle.rule.specs.Calls.{values_of}
use Rattle.gap.specs.Calls.{Measured, gap_in, measured_values}

-- "If 4 × the number of changed places is less than the gap": w' is w, changed, and g is what the call of the gap answers for w
pub record Near (m : ℕ) (w w' : List ℕ) (g : Measured) : Type 0 where
  pub word : IsWord m w'
  pub few : 4 * distance m w w' < gap_in (measured_values g)

-- "the changed block gets the same codeword": the answers a and a' to both blocks, which leave the outputs v and v'
pub record Same (m : ℕ) (v v' : List ℕ) (a a' : Decoded) : Type 0 where
  pub first : number_in (values_of a) ≡ 0
  pub second : number_in (values_of a') ≡ 0
  pub codeword : IsCodeword m 1 v
  pub output : v' ≡ v

-- Two calls on arrays that differ by an array of codewords: document 02, request 12. Assumes nothing.
use Rattle.std.specs.Prelude.{ℕ, ◌+◌, ◌*◌, ◌^◌, ◌≤◌, max, ◌≡◌, List, length, ℤ}
use Rattle.words.specs.Word.{IsWord, add_words}
use Rattle.arrays.specs.Arrays.{IsArray}
use Rattle.array_decoder.specs.Calls.{ArrayDecoded, array_leaves, array_number}

-- "Arrays differing by such an array of codewords": their sum is that array
pub record DifferArrays (mr rr mc rc : ℕ) (w w' : List ℕ) : Type 0 where
  pub first : IsWord (mc + mr) w
  pub second : IsWord (mc + mr) w'
  pub array : IsArray mr rr mc rc (add_words w w')

-- "called as in demand 3": the right sizes of output and area; "the area fits the longer of row and column"
pub record FitArray (mr mc : ℕ) (out : List ℕ) (area : List ℤ) : Type 0 where
  pub output : length out ≡ 2 ^ (mc + mr)
  pub lent : 8 * 2 ^ max mr mc ≤ length area

-- "get the same refusal or outputs that differ by it, and equal leaf counts": the answers a and a' to the arrays w and w', which leave the
-- outputs v and v'
pub record AlikeArrays (w w' v v' : List ℕ) (a a' : ArrayDecoded) : Type 0 where
  pub number : array_number a' ≡ array_number a
  pub leaves : array_leaves a' ≡ array_leaves a
  pub output : array_number a ≡ 0 → v' ≡ add_words v (add_words w w')

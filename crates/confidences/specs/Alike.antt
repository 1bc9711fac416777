-- Two calls of the decoder for confidences, whose values differ by a codeword: document 02, requests 2 and 3. Assumes nothing.
use Rattle.std.specs.Prelude.{ℕ, ◌*◌, ◌^◌, ◌≤◌, ◌≡◌, List, ℤ}
use Rattle.words.specs.Word.{add_words}
use Rattle.code.specs.Code.{IsCodeword}
use Rattle.refusals.specs.Refusals.{Decoded}
use Rattle.rule.specs.Decoding.{Values, values, number_in}
use Rattle.rule.specs.Calls.{values_of, decoded_place}
use Rattle.confidences.specs.Confidences.{negated}
use Rattle.confidences.specs.Blocks.{IsBlock, Nonzero}

-- "For such a block, adding a codeword means negating the values where it is 1"
pub record DifferValues (m r : ℕ) (x x' : List ℤ) (c : List ℕ) : Type 0 where
  pub block : IsBlock m x
  pub codeword : IsCodeword m r c
  pub other : x' ≡ negated x c

-- "The right sizes are n for input and output and at least 8 × n numbers for the area; the two areas need not be equally long."
pub record RightRoom (m room area : ℕ) : Type 0 where
  pub output : room ≡ 2 ^ m
  pub lent : 8 * 2 ^ m ≤ area

-- number, rounds and leaf count, without the places mended
abbrev pub unmended : Values → Values
unmended (values e k l c) = values e k l 0

-- "the same likeness of answers is wanted": the answers a and a' to the values x and x', which leave the outputs v and v'. The places named
-- are the same; and the places mended, document 02, request 3: "For confidences that holds where none is 0."
pub record AlikeValues (m : ℕ) (x : List ℤ) (c v v' : List ℕ) (a a' : Decoded) : Type 0 where
  pub answer : unmended (values_of a') ≡ unmended (values_of a)
  pub place : decoded_place a' ≡ decoded_place a
  pub output : number_in (values_of a) ≡ 0 → v' ≡ add_words v c
  pub mended : Nonzero m x → values_of a' ≡ values_of a

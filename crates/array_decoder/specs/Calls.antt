-- What a call on an array promises: document 02, request 12. Assumes nothing.
use Rattle.std.specs.Prelude.{Result, Ok, Err, ℕ, ◌≡◌, List, ℤ}
use Rattle.refusals.specs.Refusals.{number_of, place_named, place_of}
use Rattle.rule.specs.Decoding.{area_of, output_of, refusal_of}
use Rattle.rule.specs.Reading.{Outcome, leaves_of}
use Rattle.array_decoder.specs.declared.ArrayRefused.{ArrayRefused}

-- what a call on an array answers: the summed leaf count, or why it is refused
abbrev pub ArrayDecoded : Type 0
ArrayDecoded = Result ℕ ArrayRefused

-- the values of each case of the code's answer: "No rounds and no mended places are returned."
abbrev pub array_number : ArrayDecoded → ℕ
array_number (Ok l) = 0
array_number (Err e) = number_of e.why

abbrev pub array_leaves : ArrayDecoded → ℕ
array_leaves (Ok l) = l
array_leaves (Err e) = e.leaves

abbrev pub array_place : ArrayDecoded → ℕ
array_place (Ok l) = 0
array_place (Err e) = place_of e.why

-- a call that the outcome o is the answer of: its answer d, the output and the area before and after
pub record DecodesArray (o : Outcome) (word out out' : List ℕ) (area area' : List ℤ) (d : ArrayDecoded) : Type 0 where
  pub number : array_number d ≡ refusal_of o
  pub leaves : array_leaves d ≡ leaves_of o
  pub place : array_place d ≡ place_named word (refusal_of o)
  pub output : out' ≡ output_of o out
  pub lent : area' ≡ area_of o area

-- What a call of the decoder promises. Assumes nothing.
use Rattle.std.specs.Prelude.{Ok, Err, ℕ, ◌≡◌, List, ℤ}
use Rattle.refusals.specs.Refusals.{number_of, place_of, place_named, Decoded}
use Rattle.rule.specs.Reading.{Outcome}
use Rattle.rule.specs.Decoding.{Values, values, refusal_of, answer_of, output_of, area_of}

-- the values of each case of the code's answer
abbrev pub values_of : Decoded → Values
values_of (Ok d) = values 0 d.rounds d.leaves d.mended
values_of (Err e) = values (number_of e.why) e.rounds e.leaves 0

-- the place that it names, 0 where it names none
abbrev pub decoded_place : Decoded → ℕ
decoded_place (Ok d) = 0
decoded_place (Err e) = place_of e.why

-- a call that the outcome o is the answer of, on a word of exponent m, which names the place p: its answer d, the output and the area
-- before and after
pub record Answers (m : ℕ) (o : Outcome) (word : List ℕ) (p : ℕ) (out out' : List ℕ) (area area' : List ℤ) (d : Decoded) : Type 0 where
  pub answer : values_of d ≡ answer_of m word o
  pub place : decoded_place d ≡ p
  pub output : out' ≡ output_of o out
  pub lent : area' ≡ area_of o area

-- a call of the decoder: of a refusal, only 8 names a place
abbrev pub Decodes : ℕ → Outcome → List ℕ → List ℕ → List ℕ → List ℤ → List ℤ → Decoded → Type 0
Decodes m o word out out' area area' d = Answers m o word (place_named word (refusal_of o)) out out' area area' d

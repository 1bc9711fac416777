-- The decoder's answer under its limits, for every call: document 01, "A reading at order r", its end, and "Refusals by who causes them".
-- Assumes nothing.
use Rattle.std.specs.Prelude.{ℕ, ◌*◌, ◌^◌, cond, List, [], ◌∷◌, ◌++◌, length, replicate, leb, ltb, eqb, ℤ, pos}
use Rattle.refusals.specs.Refusals.{Check, check, first_refusal, code_checks, byte_checks, area_kept}
use Rattle.words.specs.Word.{distance}
use Rattle.profiles.specs.declared.Profile.{Profile}
use Rattle.profiles.specs.Profiles.{profile_of}
use Rattle.rule.specs.Reading.{Outcome, accepted, refused, leaves_of, reading}

-- "If the full leaf count is greater than the leaf limit, the answer is 12 and no other", with "rounds 0 and the leaf limit"
abbrev pub limited : ℕ → Outcome → Outcome
limited leaves o = cond (ltb leaves (leaves_of o)) (refused 12 0 leaves) o

-- "3: round limit outside 1 to 16. 4: leaf limit outside 1 to 1,000,000."
abbrev pub limit_checks : ℕ → ℕ → List Check
limit_checks rounds leaves =
    check 3 (leb 1 rounds) ∷ check 3 (leb rounds 16) ∷ check 4 (leb 1 leaves) ∷ check 4 (leb leaves 1000000) ∷ []

-- "5: input is not n long. 6: output is not n long. 7: working area shorter" than so many numbers
abbrev pub size_checks : ℕ → ℕ → ℕ → ℕ → ℕ → List Check
size_checks n least size room area = check 5 (eqb size n) ∷ check 6 (eqb room n) ∷ check 7 (leb least area) ∷ []

-- "7: working area shorter than 8 × n numbers." Then 8.
abbrev pub buffer_checks : ℕ → List ℕ → ℕ → ℕ → List Check
buffer_checks m word room area = size_checks (2 ^ m) (8 * 2 ^ m) (length word) room area ++ byte_checks word

-- "14: profile number above 4."
abbrev pub profile_checks : ℕ → List Check
profile_checks number = check 14 (leb number 4) ∷ []

-- the outcome o unless the checks refuse, "0 and 0 for 1 to 8 and 14"
unfoldable pub after : List Check → Outcome → Outcome
after cs o = cond (eqb (first_refusal cs) 0) o (refused (first_refusal cs) 0 0)

-- the answer on a word of the code's size, in buffers of the right sizes
unfoldable pub decode_of : ℕ → ℕ → ℕ → ℕ → List ℕ → Outcome
decode_of m r rounds leaves w = after (code_checks m r ++ limit_checks rounds leaves) (limited leaves (reading r m rounds w))

-- the answer of any call: on any input, with an output of `room` bytes and an area of `area` numbers
unfoldable pub decode_call : ℕ → ℕ → ℕ → ℕ → List ℕ → ℕ → ℕ → Outcome
decode_call m r rounds leaves word room area =
    after (code_checks m r ++ limit_checks rounds leaves ++ buffer_checks m word room area) (limited leaves (reading r m rounds word))

-- the same by profile: "14 is tested first and stands in for 1 to 4"
module _ (number : ℕ) where
  abbrev profile : Profile
  profile = profile_of number

  abbrev read : List ℕ → Outcome
  read w = limited profile.leaves (reading profile.r profile.m profile.rounds w)

  unfoldable pub decode_profile_of : List ℕ → Outcome
  decode_profile_of w = after (profile_checks number) (read w)

  unfoldable pub decode_profile_call : List ℕ → ℕ → ℕ → Outcome
  decode_profile_call word room area = after (profile_checks number ++ buffer_checks profile.m word room area) (read word)

-- ---- what a call returns and leaves

-- its number, 0 where accepted
abbrev pub refusal_of : Outcome → ℕ
refusal_of (accepted d k l) = 0
refusal_of (refused e k l) = e

-- a refusal's number, 0 where accepted; the rounds; the leaf count; the places mended
pub data Values : Type 0 where
  values : ℕ → ℕ → ℕ → ℕ → Values

abbrev pub number_in : Values → ℕ
number_in (values e k l c) = e

-- document 02, request 3: "the number of places where the accepted word differs from the received one", a word w of exponent m; "On every
-- refusal the number is 0."
abbrev pub answer_of : ℕ → List ℕ → Outcome → Values
answer_of m w (accepted d k l) = values 0 k l (distance m w d)
answer_of m w (refused e k l) = values e k l 0

-- "Every refusal leaves the output untouched."
abbrev pub output_of : Outcome → List ℕ → List ℕ
output_of (accepted d k l) out = d
output_of (refused e k l) out = out

abbrev pub zeros : List ℤ → List ℤ
zeros area = replicate (length area) (pos 0)

-- "After refusals 1 to 8 and 14 the area is untouched. After every other return, all of it is zero."
abbrev pub area_of : Outcome → List ℤ → List ℤ
area_of (accepted d k l) area = zeros area
area_of (refused e k l) area = cond (area_kept e) area (zeros area)

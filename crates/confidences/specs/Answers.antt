-- The answer of a call for confidences: document 02, requests 2 and 3. Assumes nothing.
use Rattle.std.specs.Prelude.{ℕ, ◌*◌, ◌^◌, cond, List, [], ◌∷◌, ◌++◌, leb, ltb, eqb, ℤ, nat_abs, length}
use Rattle.words.specs.Sum.{first_where}
use Rattle.area.specs.Area.{at}
use Rattle.profiles.specs.declared.Profile.{Profile}
use Rattle.profiles.specs.Profiles.{profile_of}
use Rattle.refusals.specs.Refusals.{Check, check, code_checks, Decoded}
use Rattle.tables.specs.declared.Table.{Table}
use Rattle.tables.specs.Tables.{entry_of, known}
use Rattle.rule.specs.Reading.{Outcome}
use Rattle.rule.specs.Decoding.{limit_checks, size_checks, profile_checks, limited, after, refusal_of}
use Rattle.rule.specs.Calls.{Answers}
use Rattle.confidences.specs.Confidences.{greatest, signs_of, reading, zero_place}

-- "18, a confidence outside the range, lowest place named": the place, and the length where there is none
unfoldable pub lowest_outside : List ℤ → ℕ
lowest_outside x = first_where (length x) (λ p. ltb greatest (nat_abs (at x p)))

-- 5, 6 and 7 as for bits, "18 .. in the place of 8"
abbrev pub value_checks : ℕ → List ℤ → ℕ → ℕ → List Check
value_checks m x room area = size_checks (2 ^ m) (8 * 2 ^ m) (length x) room area ++ (check 18 (leb (length x) (lowest_outside x)) ∷ [])

-- the answer of any call: on any values, with an output of `room` bytes and an area of `area` numbers
unfoldable pub confidence_call : ℕ → ℕ → ℕ → ℕ → List ℤ → ℕ → ℕ → Outcome
confidence_call m r rounds leaves x room area =
    after (code_checks m r ++ limit_checks rounds leaves ++ value_checks m x room area) (limited leaves (reading r m rounds x))

-- the same by profile
unfoldable pub confidence_profile_call : ℕ → List ℤ → ℕ → ℕ → Outcome
confidence_profile_call number x room area =
    let f : Profile = profile_of number in
    after (profile_checks number ++ value_checks f.m x room area) (limited f.leaves (reading f.r f.m f.rounds x))

-- the same by an entry of a table: document 02, request 4
unfoldable pub confidence_table_call : Table → ℕ → List ℤ → ℕ → ℕ → Outcome
confidence_table_call t number x room area =
    let f : Profile = entry_of t number in
    after (check 14 (known t number) ∷ value_checks f.m x room area) (limited f.leaves (reading f.r f.m f.rounds x))

-- the place that an answer of this number names: "17, .. lowest place named", "18, .. lowest place named"
unfoldable pub value_place : ℕ → ℕ → ℕ → List ℤ → ℕ → ℕ
value_place m r rounds x number = cond (eqb number 17) (zero_place r m rounds x) (cond (eqb number 18) (lowest_outside x) 0)

-- a call of the decoder for confidences that the outcome o is the answer of: what is mended is counted against the signs received
abbrev pub DecodesValues : ℕ → ℕ → ℕ → Outcome → List ℤ → List ℕ → List ℕ → List ℤ → List ℤ → Decoded → Type 0
DecodesValues m r rounds o x out out' area area' d =
    Answers m o (signs_of m x) (value_place m r rounds x (refusal_of o)) out out' area area' d

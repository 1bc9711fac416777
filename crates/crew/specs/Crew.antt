-- The crew's lines: document 02, request 7. Text is a list of bytes. Assumes nothing.
use Rattle.std.specs.Prelude.{ℕ, cond, List, [], ◌∷◌, ◌++◌, eqb}
use Rattle.text.specs.Numbers.{ten_digits, decimal}
use Rattle.profiles.specs.declared.Profile.{Profile}
use Rattle.rule.specs.Reading.{Outcome}
use Rattle.rule.specs.Decoding.{Values, values, answer_of}
use Rattle.lines.specs.Lines.{Lines, hyphens, newline}

-- "all in decimal with one space between"
abbrev pub spaced : ℕ → List ℕ
spaced n = (32 ∷ []) ++ decimal n

-- "profile, rounds, leaf count, mended places and refusal"
abbrev pub numbers_text : ℕ → Values → List ℕ
numbers_text profile (values refusal rounds leaves mended) =
    spaced profile ++ spaced rounds ++ spaced leaves ++ spaced mended ++ spaced refusal ++ newline

-- a record's line, by what the decoder gives for its word: "An accepted record has refusal 0."
abbrev pub crew_line : ℕ → ℕ → Profile → List ℕ → Outcome → List ℕ
crew_line serial number p word o = ten_digits serial ++ numbers_text number (answer_of p.m word o)

-- the line of a refusal of the capture reader, "the serial as in billing's line": 16 has ten hyphens in its place
abbrev pub serial_text : ℕ → ℕ → List ℕ
serial_text number serial = cond (eqb number 16) hyphens (ten_digits serial)

-- "On 14 and 16 the four numbers after the serial are printed as 0."
abbrev pub crew_refusal : ℕ → ℕ → List ℕ
crew_refusal number serial = serial_text number serial ++ numbers_text 0 (values number 0 0 0)

-- "The radio crew sees serial, profile, rounds, leaf count, mended places and refusal .. and never the message"
abbrev pub crew : Lines
crew = record { of_record = crew_line; of_refusal = crew_refusal }

-- The lines of the meter listing: document 01, "Captures and the meter listing". Text is a list of bytes. Assumes nothing.
use Rattle.std.specs.Prelude.{ℕ, cond, List, [], ◌∷◌, ◌++◌, replicate, eqb, Ok, Err}
use Rattle.text.specs.Numbers.{ten_digits, decimal, hex_of}
use Rattle.refusals.specs.declared.Refusal.TheVariants.{Header}
use Rattle.refusals.specs.Refusals.{Decoded, number_of}
use Rattle.code.specs.Code.{message_of}
use Rattle.profiles.specs.declared.Profile.{Profile}
use Rattle.rule.specs.Reading.{Outcome, accepted, refused}
use Rattle.rule.specs.Decoding.{decode_of}

abbrev pub newline : List ℕ
newline = 10 ∷ []

-- " refused " and the number
abbrev pub refusal_text : ℕ → List ℕ
refusal_text number = (32 ∷ 114 ∷ 101 ∷ 102 ∷ 117 ∷ 115 ∷ 101 ∷ 100 ∷ 32 ∷ []) ++ decimal number

-- "A line is the serial in ten decimal digits, a space, and either the message as lower-case hexadecimal .. or "refused" and the number."
abbrev pub accepted_line : ℕ → List ℕ → List ℕ
accepted_line serial message = ten_digits serial ++ (32 ∷ []) ++ hex_of message ++ newline

abbrev pub refused_line : ℕ → ℕ → List ℕ
refused_line serial number = ten_digits serial ++ refusal_text number ++ newline

-- "16 prints ten hyphens for the serial."
abbrev pub hyphens : List ℕ
hyphens = replicate 10 45

abbrev pub cut_line : List ℕ
cut_line = hyphens ++ refusal_text 16 ++ newline

-- the lines that a reader of the listing sees: of a record, by its serial, its profile's number and entry, its word and what the decoder
-- gives for it; and of a refusal of the capture reader, by its number and the serial
pub record Lines : Type 0 where
  pub of_record : ℕ → ℕ → Profile → List ℕ → Outcome → List ℕ
  pub of_refusal : ℕ → ℕ → List ℕ

-- the meter listing's lines, of serial and message
abbrev pub billing_line : ℕ → ℕ → Profile → List ℕ → Outcome → List ℕ
billing_line serial number p word (accepted d k l) = accepted_line serial (message_of p.m p.r d)
billing_line serial number p word (refused e k l) = refused_line serial e

abbrev pub billing : Lines
billing = record { of_record = billing_line; of_refusal = λ number serial. cond (eqb number 16) cut_line (refused_line serial number) }

-- a line, and 1 where its record was accepted
pub data Entry : Type 0 where
  entry : List ℕ → ℕ → Entry

abbrev pub accepted_in : Outcome → ℕ
accepted_in (accepted d k l) = 1
accepted_in (refused e k l) = 0

-- the same of the code's answer
abbrev pub accepted_by : Decoded → ℕ
accepted_by (Ok d) = 1
accepted_by (Err e) = 0

-- a record's entry, by what the decoder gives under its profile p
abbrev pub decoded_by : Profile → List ℕ → Outcome
decoded_by p word = decode_of p.m p.r p.rounds p.leaves word

unfoldable pub record_entry : Lines → ℕ → ℕ → Profile → List ℕ → Entry
record_entry reader serial number p word = entry (reader.of_record serial number p word (decoded_by p word)) (accepted_in (decoded_by p word))

-- "The last line counts lines as records, then those accepted."
abbrev pub last_line : ℕ → ℕ → List ℕ
last_line records ok =
    decimal records ++ (32 ∷ 114 ∷ 101 ∷ 99 ∷ 111 ∷ 114 ∷ 100 ∷ 115 ∷ 44 ∷ 32 ∷ [])
    ++ decimal ok ++ (32 ∷ 97 ∷ 99 ∷ 99 ∷ 101 ∷ 112 ∷ 116 ∷ 101 ∷ 100 ∷ []) ++ newline

-- "A capture with 15 prints only "file refused 15"."
abbrev pub header_line : List ℕ
header_line = (102 ∷ 105 ∷ 108 ∷ 101 ∷ []) ++ refusal_text (number_of Header) ++ newline

-- What the decoding of a record's word and its lines ask and promise. Assumes nothing.
use Rattle.std.specs.Prelude.{ℕ, ◌≡◌, List}
use Rattle.profiles.specs.declared.Profile.{Profile}
use Rattle.tables.specs.Limits.{InLimits}
use Rattle.rule.specs.RightSizes.{RightSizes}
use Rattle.text.specs.Texts.{Appended}
use Rattle.lines.specs.Lines.{Entry, entry}
use Rattle.entries.specs.declared.records.Line.{Line}

-- a word of an entry, with an output of `room` bytes and an area of `area` numbers
pub record Decodable (p : Profile) (word : List ℕ) (room area : ℕ) : Type 0 where
  pub limits : InLimits p
  pub sizes : RightSizes p.m word room area

abbrev pub line_in : Entry → List ℕ
line_in (entry line ok) = line

abbrev pub ok_in : Entry → ℕ
ok_in (entry line ok) = ok

-- the line of an entry was put at place `at` of the output
pub record Lined (e : Entry) (before : List ℕ) (at : ℕ) (after : List ℕ) (line : Line) : Type 0 where
  pub text : Appended before at (line_in e) line.end after
  pub counted : line.accepted ≡ ok_in e

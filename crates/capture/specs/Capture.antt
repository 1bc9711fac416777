-- The records of a capture: document 01, "Captures and the meter listing". Assumes nothing.
use Rattle.std.specs.Prelude.{ℕ, ◌+◌, ◌*◌, ◌/◌, ◌^◌, ◌≡◌, cond, not, List, length, get_or, drop, ltb, eqb, Option, Some, None, Result, Ok, Err}
use Rattle.words.specs.Sum.{tabulate}
use Rattle.refusals.specs.Refusals.{number_of}
use Rattle.tables.specs.declared.Table.{Table}
use Rattle.tables.specs.Tables.{Slot, held, is_there, slot_of}
use Rattle.unpacking.specs.Packed.{packed_bit}
use Rattle.capture.specs.declared.NoRecord.{NoRecord}
use Rattle.capture.specs.declared.Record.{Record}

-- "serial (32 bits, senior byte first)"
abbrev pub serial_of : List ℕ → ℕ
serial_of s = ((get_or s 0 0 * 256 + get_or s 1 0) * 256 + get_or s 2 0) * 256 + get_or s 3 0

-- "profile (one byte)"
abbrev pub profile_at : List ℕ → ℕ
profile_at s = get_or s 4 0

-- what the table has at the profile of the record at the start of s: document 02, request 4
abbrev pub slot_at : Table → List ℕ → Slot
slot_at t s = slot_of t (profile_at s)

-- n of an entry, and the length of its record
abbrev pub word_size : Slot → ℕ
word_size slot = 2 ^ (held slot).m

abbrev pub record_size : Slot → ℕ
record_size slot = 5 + word_size slot / 8

-- a record's bits, as many as its entry's words have
unfoldable pub unpacked : Slot → List ℕ → List ℕ
unpacked slot s = tabulate (word_size slot) (packed_bit s)

-- what the reader answers: that no record is left; the number of a refusal, and the serial where it is printed, else 0; or a record's
-- serial, its profile and the position after it
pub data Answer : Type 0 where
  none_left : Answer
  refused : ℕ → ℕ → Answer
  record_at : ℕ → ℕ → ℕ → Answer

-- of each case of the code's answer
abbrev pub Found : Type 0
Found = Result (Option Record) NoRecord

abbrev pub answer_of : Found → Answer
answer_of (Ok (Some found)) = record_at found.serial found.profile found.next
answer_of (Err missing) = refused (number_of missing.why) missing.serial
answer_of (Ok None) = none_left

-- by what the table has at the profile
module _ (slot : Slot) where
  -- the record at the start of s, which stands at `at` of the capture, and a word buffer of `room` bytes: "Where no byte follows, the
  -- capture reader answers that no record is left"; "16: the capture ends inside a record"; 14 "is tested when the profile byte is read,
  -- before 16 for missing bits, and 6 for the capture reader's word buffer comes last"
  unfoldable pub record_in : List ℕ → ℕ → ℕ → Answer
  record_in s at room =
      cond (eqb (length s) 0) none_left
      (cond (ltb (length s) 5) (refused 16 0)
      (cond (not (is_there slot)) (refused 14 (serial_of s))
      (cond (ltb (length s) (record_size slot)) (refused 16 0)
      (cond (eqb room (word_size slot)) (record_at (serial_of s) (profile_at s) (at + record_size slot)) (refused 6 (serial_of s))))))

  -- how many bytes follow the five of a head: 0 where there are fewer than five or the profile is unknown
  unfoldable pub body_length : List ℕ → ℕ
  body_length s = cond (ltb (length s) 5) 0 (cond (is_there slot) (word_size slot / 8) 0)

  -- the word buffer after an answer: the record's bits, or as it was
  abbrev pub buffer_of : Answer → List ℕ → List ℕ → List ℕ
  buffer_of none_left s word = word
  buffer_of (refused number serial) s word = word
  buffer_of (record_at serial profile next) s word = unpacked slot s

  -- the record at the start of s read: the answer, and the word buffer before and after
  pub record Stands (s : List ℕ) (at : ℕ) (word word' : List ℕ) (f : Found) : Type 0 where
    pub answer : answer_of f ≡ record_in s at (length word)
    pub buffer : word' ≡ buffer_of (record_in s at (length word)) s word

-- a call of the reader at a position of a capture, under a table
abbrev pub Finds : Table → List ℕ → ℕ → List ℕ → List ℕ → Found → Type 0
Finds t capture at = Stands (slot_at t (drop at capture)) (drop at capture) at

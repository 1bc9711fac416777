-- The whole listing in a reader's lines, under a table: document 01, "Captures and the meter listing", and document 02, request 4. Assumes
-- nothing.
use Rattle.std.specs.Prelude.{ℕ, zero, suc, ◌+◌, Bool, true, false, cond, List, [], ◌∷◌, ◌++◌, length, drop}
use Rattle.header.specs.Header.{header_test}
use Rattle.tables.specs.declared.Table.{Table}
use Rattle.tables.specs.Tables.{Slot, held}
use Rattle.capture.specs.Capture as capture
use Rattle.capture.specs.Capture.{slot_at, word_size, unpacked, record_in}
use Rattle.lines.specs.Lines.{Lines, last_line, header_line, Entry, entry, record_entry}

-- what the capture reader finds at the start of s, in a word buffer of its profile's size
abbrev pub start : Slot → List ℕ → capture.Answer
start slot s = record_in slot s 0 (word_size slot)

-- whether that is a record, which the decoder reads
abbrev pub is_record : capture.Answer → Bool
is_record capture.none_left = false
is_record (capture.refused number serial) = false
is_record (capture.record_at serial number next) = true

abbrev pub starts_record : Table → List ℕ → Bool
starts_record t s = is_record (start (slot_at t s) s)

module _ (reader : Lines) where
  -- the reader's line of what stands at the start of s, and the lines of what follows: "14 ends the reading after its line", and so does 16
  abbrev pub entries_for : Slot → capture.Answer → List ℕ → (List ℕ → List Entry) → List Entry
  entries_for slot capture.none_left s more = []
  entries_for slot (capture.refused number serial) s more = entry (reader.of_refusal number serial) 0 ∷ []
  entries_for slot (capture.record_at serial number next) s more = record_entry reader serial number (held slot) (unpacked slot s) ∷ more (drop next s)

abbrev pub lines_of : List Entry → List ℕ
lines_of [] = []
lines_of (entry line ok ∷ es) = line ++ lines_of es

abbrev pub accepted_of : List Entry → ℕ
accepted_of [] = 0
accepted_of (entry line ok ∷ es) = ok + accepted_of es

module _ (t : Table) (reader : Lines) where
  -- the entries of at most `most` records from the start of s
  unfoldable pub entries_of : ℕ → List ℕ → List Entry
  entries_of zero s = []
  entries_of (suc most) s = entries_for reader (slot_at t s) (start (slot_at t s) s) s (entries_of most)

  unfoldable pub listing_of : List ℕ → List ℕ
  listing_of s =
      let es : List Entry = entries_of (length s) (drop 5 s) in
      cond (header_test s) (lines_of es ++ last_line (length es) (accepted_of es)) header_line

-- The records of a capture and the meter listing as document 01 alone has them: with its own profiles, and no table and reader as
-- parameters. BillingLaws shows that the general definitions give the same under its table. Assumes nothing.
use Rattle.std.specs.Prelude.{ℕ, zero, suc, ◌+◌, ◌/◌, ◌^◌, cond, List, [], ◌∷◌, ◌++◌, length, drop, eqb, ltb}
use Rattle.words.specs.Sum.{tabulate}
use Rattle.code.specs.Code.{message_of}
use Rattle.profiles.specs.Profiles.{profile_of}
use Rattle.rule.specs.Reading.{Outcome, accepted, refused}
use Rattle.rule.specs.Decoding.{decode_profile_of}
use Rattle.unpacking.specs.Packed.{packed_bit}
use Rattle.header.specs.Header.{header_test}
use Rattle.capture.specs.Capture.{Answer, none_left, profile_at, record_at, serial_of}
use Rattle.capture.specs.Capture as capture
use Rattle.lines.specs.Lines.{Entry, accepted_line, cut_line, entry, header_line, last_line, refused_line}
use Rattle.pieces.specs.Listing.{accepted_of, lines_of}

-- n of a profile, and the length of its record
abbrev pub word_size : ℕ → ℕ
word_size profile = 2 ^ (profile_of profile).m

abbrev pub record_size : ℕ → ℕ
record_size profile = 5 + word_size profile / 8

-- a record's bits
unfoldable pub unpacked : ℕ → List ℕ → List ℕ
unpacked profile s = tabulate (word_size profile) (packed_bit s)

-- the record at the start of s
unfoldable pub record_in : List ℕ → ℕ → ℕ → Answer
record_in s at room =
    cond (eqb (length s) 0) none_left
    (cond (ltb (length s) 5) (capture.refused 16 0)
    (cond (ltb 4 (profile_at s)) (capture.refused 14 (serial_of s))
    (cond (ltb (length s) (record_size (profile_at s))) (capture.refused 16 0)
    (cond (eqb room (word_size (profile_at s))) (record_at (serial_of s) (profile_at s) (at + record_size (profile_at s))) (capture.refused 6 (serial_of s))))))

-- a record's line, by what the decoder gives under its profile
abbrev pub entry_for : ℕ → ℕ → Outcome → Entry
entry_for serial profile (accepted d k l) = entry (accepted_line serial (message_of (profile_of profile).m (profile_of profile).r d)) 1
entry_for serial profile (refused e k l) = entry (refused_line serial e) 0

unfoldable pub record_entry : ℕ → ℕ → List ℕ → Entry
record_entry serial profile word = entry_for serial profile (decode_profile_of profile word)

-- the entries from the start of s, of at most `most` records
abbrev pub entries_for : Answer → List ℕ → (List ℕ → List Entry) → List Entry
entries_for none_left s more = []
entries_for (capture.refused number serial) s more = entry (cond (eqb number 16) cut_line (refused_line serial number)) 0 ∷ []
entries_for (record_at serial profile next) s more = record_entry serial profile (unpacked profile s) ∷ more (drop next s)

unfoldable pub entries_of : ℕ → List ℕ → List Entry
entries_of zero s = []
entries_of (suc most) s = entries_for (record_in s 0 (word_size (profile_at s))) s (entries_of most)

unfoldable pub listing_of : List ℕ → List ℕ
listing_of s =
    let es : List Entry = entries_of (length s) (drop 5 s) in
    cond (header_test s) (lines_of es ++ last_line (length es) (accepted_of es)) header_line

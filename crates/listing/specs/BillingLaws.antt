-- Billing's listing under document 01's table is document 01's listing. Assumes nothing.
use Rattle.std.specs.Prelude.{ℕ, zero, suc, ◌≤◌, ◌<◌, ◌≡◌, refl, true, List, [], ◌∷◌, ◌++◌, length, drop}
use Rattle.std.proofs.Common.{sym, ap, ap₂, ◌∙◌, arith, le-leb, le-ltb, lt-ltb}
use Rattle.std.proofs.lemmas.Bool.{false≢true}
use Rattle.std.proofs.Math.Decide.{dec_le}
use Rattle.profiles.specs.Profiles.{profile_of}
use Rattle.refusals.proofs.CheckLaws.{no_more, passes}
use Rattle.refusals.specs.Refusals.{Check, code_checks, first_refusal}
use Rattle.tables.specs.Tables as tables
use Rattle.tables.specs.Tables.{Slot, held, is_there, ours, some}
use Rattle.tables.specs.Slots.{ours-none, ours_there}
use Rattle.rule.specs.Reading.{Outcome, accepted, refused}
use Rattle.rule.specs.Decoding.{after, decode_of, decode_profile_of, limit_checks, profile_checks}
use Rattle.rule.proofs.ProfileLaws.{profile_passes}
use Rattle.capture.specs.Capture as capture
use Rattle.capture.specs.Capture.{Answer, none_left, profile_at, record_at, record_in, slot_at, unpacked, word_size}
use Rattle.lines.specs.Lines.{Entry, accepted_in, billing, billing_line, decoded_by, entry, record_entry}
use Rattle.pieces.specs.Listing.{entries_for, entries_of, listing_of, start}
use Rattle.entries.specs.EntryLaws.{record_of}
use Rattle.listing.specs.Document01 as document

-- ---- a record

known_record : (s : List ℕ) (at room : ℕ) → profile_at s ≤ 4 → record_in (some (profile_of (profile_at s))) s at room ≡ document.record_in s at room
unfolding record_in document.record_in
known_record s at room h = rw (le-ltb 4 (profile_at s) h)

unknown_record : (s : List ℕ) (at room room' : ℕ) → 4 < profile_at s → record_in tables.none s at room ≡ document.record_in s at room'
unfolding record_in document.record_in
unknown_record s at room room' h = rw (lt-ltb 4 (profile_at s) h)

-- what the capture reader answers under document 01's table is document 01's answer
pub ours_record : (s : List ℕ) (at room : ℕ) → record_in (slot_at ours s) s at room ≡ document.record_in s at room
ours_record s at room = elim (dec_le (profile_at s) 4) [
  | yes h ↦ rw (ours_there (profile_at s) h) (known_record s at room h)
  | no k ↦ rw (ours-none (profile_at s) (omega arith)) (unknown_record s at room room (omega arith))
]

-- ---- a record's entry

entry_by : (serial number : ℕ) (word : List ℕ) (o : Outcome)
    → entry (billing_line serial number (profile_of number) word o) (accepted_in o) ≡ document.entry_for serial number o
entry_by serial number word (accepted d k l) = refl
entry_by serial number word (refused e k l) = refl

same_checks : (cs ds : List Check) (o : Outcome) → first_refusal cs ≡ first_refusal ds → after cs o ≡ after ds o
unfolding after
same_checks cs ds o e = rw e

decoded_same : (number : ℕ) → number ≤ 4 → (word : List ℕ) → decoded_by (profile_of number) word ≡ decode_profile_of number word
unfolding decode_of decode_profile_of
decoded_same number h word =
    same_checks (code_checks (profile_of number).m (profile_of number).r ++ limit_checks (profile_of number).rounds (profile_of number).leaves) (profile_checks number) _
    (profile_passes number h ∙ passes 14 _ [] (le-leb number 4 h) no_more)

entry_same : (number : ℕ) → number ≤ 4 → (serial : ℕ) (s : List ℕ)
    → record_entry billing serial number (profile_of number) (unpacked (some (profile_of number)) s) ≡ document.record_entry serial number (document.unpacked number s)
unfolding record_entry document.record_entry unpacked document.unpacked
entry_same number h serial s =
    let w : List ℕ = document.unpacked number s in
    ap (λ (o : Outcome). entry (billing_line serial number (profile_of number) w o) (accepted_in o)) (decoded_same number h w) ∙ entry_by serial number w (decode_profile_of number w)

-- ---- what stands at the start of s

-- an answer's entries
module _ (s : List ℕ) (f g : List ℕ → List Entry) (same : (u : List ℕ) → f u ≡ g u) (slot : Slot)
    (entries : is_there slot ≡ true → (serial : ℕ) → record_entry billing serial (profile_at s) (held slot) (unpacked slot s) ≡ document.record_entry serial (profile_at s) (document.unpacked (profile_at s) s)) where
  by_answer : (a : Answer) → start slot s ≡ a → entries_for billing slot a s f ≡ document.entries_for a s g
  by_answer none_left e = refl
  by_answer (capture.refused number serial) e = refl
  by_answer (record_at serial number next) e =
      let r = record_of slot s e in
      ap₂ (λ (x : Entry) (es : List Entry). x ∷ es)
      (ap (λ (n : ℕ). record_entry billing serial n (held slot) (unpacked slot s)) r.number_is
      ∙ entries r.known serial
      ∙ ap (λ (n : ℕ). document.record_entry serial n (document.unpacked n s)) (sym r.number_is))
      (same (drop next s))

  by_start : start slot s ≡ document.record_in s 0 (document.word_size (profile_at s))
      → entries_for billing slot (start slot s) s f ≡ document.entries_for (document.record_in s 0 (document.word_size (profile_at s))) s g
  by_start e = by_answer (start slot s) refl ∙ ap (λ (a : Answer). document.entries_for a s g) e

first_same : (s : List ℕ) (f g : List ℕ → List Entry) → ((u : List ℕ) → f u ≡ g u)
    → entries_for billing (slot_at ours s) (start (slot_at ours s) s) s f ≡ document.entries_for (document.record_in s 0 (document.word_size (profile_at s))) s g
first_same s f g same = elim (dec_le (profile_at s) 4) [
  | yes h ↦ rw (ours_there (profile_at s) h)
      (by_start s f g same (some (profile_of (profile_at s))) (λ z serial. entry_same (profile_at s) h serial s) (known_record s 0 _ h))
  | no k ↦ rw (ours-none (profile_at s) (omega arith))
      (by_start s f g same tables.none (λ z serial. absurd (false≢true z)) (unknown_record s 0 _ _ (omega arith)))
]

-- ---- the listing

entries_same : (most : ℕ) (s : List ℕ) → entries_of ours billing most s ≡ document.entries_of most s
unfolding entries_of document.entries_of
entries_same zero s = refl
entries_same (suc most) s = first_same s (entries_of ours billing most) (document.entries_of most) (entries_same most)

-- "the programs keep ours"
pub billing_listing : (s : List ℕ) → listing_of ours billing s ≡ document.listing_of s
unfolding listing_of document.listing_of
billing_listing s = rw (entries_same (length s) (drop 5 s))

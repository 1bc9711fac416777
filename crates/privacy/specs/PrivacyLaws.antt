-- The crew's listing does not show the messages: document 02, request 7. Assumes nothing.
use Rattle.std.specs.Prelude.{ℕ, ◌≡◌, Bool, true, false, List, [], ◌∷◌, ◌++◌, length, take, drop}
use Rattle.std.proofs.Common.{arith, sym, ◌∙◌, append-nil, take-append-drop, take_all, take_at}
use Rattle.std.proofs.Math.Path.{refl, ap, ap₂}
use Rattle.std.proofs.lemmas.Bool.{false≢true}
use Rattle.header.specs.HeaderLaws.{header_first}
use Rattle.tables.specs.declared.Table.{Table}
use Rattle.tables.specs.Tables.{Slot, held, slot_of}
use Rattle.capture.specs.Capture as capture
use Rattle.capture.specs.Capture.{profile_at, record_size, serial_of, slot_at, unpacked}
use Rattle.lines.specs.Lines.{Entry, last_line, record_entry}
use Rattle.crew.specs.Crew.{crew}
use Rattle.crew.proofs.CrewLaws.{entry_same}
use Rattle.pieces.specs.declared.Listed.{Listed}
use Rattle.pieces.specs.Listing.{accepted_of, is_record, lines_of, listing_of, start, starts_record}
use Rattle.pieces.specs.Pieces.{Piece, entries}
use Rattle.entries.specs.EntryLaws.{entries_record, record_of}
use Rattle.listing.specs.Joins.{listing_is}
use Rattle.programs.specs.Program.{Printed}
use Rattle.programs.specs.ProgramLaws.{printed_listing}
use Rattle.privacy.specs.Same.{SameCaptures, SameLines, SameRecord, SameRecords, no_more, one_more}

-- ---- records

-- a record stands at the start of s
module _ (t : Table) (s : List ℕ) where
  found : (a : capture.Answer) → start (slot_at t s) s ≡ a → is_record a ≡ true → start (slot_at t s) s ≡ capture.record_at (serial_of s) (profile_at s) (record_size (slot_at t s))
  found capture.none_left e h = absurd (false≢true h)
  found (capture.refused n i) e h = absurd (false≢true h)
  found (capture.record_at serial number next) e h =
      let r = record_of (slot_at t s) s e in
      let a = r.serial_is in
      let b = r.number_is in
      let c = r.next_is in
      cc

  its : Entry
  its = record_entry crew (serial_of s) (profile_at s) (held (slot_at t s)) (unpacked (slot_at t s) s)

  record_first : starts_record t s ≡ true → entries t crew s ≡ its ∷ entries t crew (drop (record_size (slot_at t s)) s)
  unfolding its
  record_first h = entries_record t crew s (found (start (slot_at t s) s) refl h)

module _ (t : Table) (s s' : List ℕ) (h : SameRecord t s s') where
  slot_same : slot_at t s' ≡ slot_at t s
  slot_same = ap (slot_of t) h.profile

  its_same : its t s' ≡ its t s
  unfolding its
  its_same =
      ap (λ (x : Slot). record_entry crew (serial_of s') (profile_at s') (held x) (unpacked x s')) slot_same
      ∙ ap₂ (λ (i n : ℕ). record_entry crew i n (held (slot_at t s)) (unpacked (slot_at t s) s')) h.serial h.profile
      ∙ entry_same (serial_of s) (profile_at s) (held (slot_at t s)) (unpacked (slot_at t s) s) (unpacked (slot_at t s) s') h.blocks.first h.blocks.second h.blocks.codeword

  records_then : entries t crew (drop (record_size (slot_at t s)) s') ≡ entries t crew (drop (record_size (slot_at t s)) s) → entries t crew s' ≡ entries t crew s
  records_then e =
      record_first t s' h.second
      ∙ ap₂ (λ (x : Entry) (es : List Entry). x ∷ es) its_same (ap (λ (x : Slot). entries t crew (drop (record_size x) s')) slot_same ∙ e)
      ∙ sym (record_first t s h.first)

pub entries_same : (t : Table) (s s' : List ℕ) → SameRecords t s s' → entries t crew s' ≡ entries t crew s
entries_same t s s' no_more = refl
entries_same t s s' (one_more h more) = records_then t s s' h (entries_same t (drop (record_size (slot_at t s)) s) (drop (record_size (slot_at t s)) s') more)

-- ---- the listing

-- "must give the crew the same bytes"
pub crew_same : (t : Table) (c c' : List ℕ) → SameCaptures t c c' → listing_of t crew c' ≡ listing_of t crew c
crew_same t c c' h =
    listing_is t crew c' (header_first c' ∙ h.second)
    ∙ ap (λ (es : List Entry). lines_of es ++ last_line (length es) (accepted_of es)) (entries_same t (drop 5 c) (drop 5 c') h.records)
    ∙ sym (listing_is t crew c (header_first c ∙ h.first))

-- ---- what the functions write

prefix_same : (xs ys us vs : List Entry) → xs ++ us ≡ ys ++ vs → length xs ≡ length ys → xs ≡ ys
prefix_same xs ys us vs e n = sym (take_at xs us (length xs) refl) ∙ ap (take (length xs)) e ∙ take_at ys vs (length xs) (sym n)

-- the entries of a part are those listed of it, and others
record Split (t : Table) (part : List ℕ) (consumed : ℕ) : Type 0 where
  others : List Entry
  splits : entries t crew part ≡ entries t crew (take consumed part) ++ others

all_listed : {t : Table} {follows : List ℕ → Type 0} {part before after : List ℕ} {d : Listed} → Piece t crew follows part before 0 after d
    → d.ended ≡ true → entries t crew (take d.consumed part) ≡ entries t crew part
all_listed {t} {part = part} {d = d} p e = ap (entries t crew) (take_all d.consumed part (omega (arith, p.all e)))

split : {t : Table} {follows : List ℕ → Type 0} {part before after : List ℕ} {d : Listed} → Piece t crew follows part before 0 after d → Split t part d.consumed
split {t} {part = part} {d = d} p = go d.ended refl
  where
    go : (b : Bool) → d.ended ≡ b → Split t part d.consumed
    go true e = record { others = []; splits = sym (append-nil _ ∙ all_listed p e) }
    go false e = record {
      others = entries t crew (drop d.consumed part);
      splits = ap (entries t crew) (sym (take-append-drop d.consumed part)) ∙ (p.goes_on e).joins (drop d.consumed part);
    }

module _ {t : Table} {follows follows' : List ℕ → Type 0} {part part' before before' after after' : List ℕ} {d e : Listed}
    (p : Piece t crew follows part before 0 after d) (q : Piece t crew follows' part' before' 0 after' e) (h : SameRecords t part part') where
  listed_same : e.records ≡ d.records → entries t crew (take e.consumed part') ≡ entries t crew (take d.consumed part)
  listed_same n =
      prefix_same _ _ (split q).others (split p).others (sym (split q).splits ∙ entries_same t part part' h ∙ (split p).splits) (sym q.records ∙ n ∙ p.records)

  pub pieces_same : SameLines d e after after'
  pieces_same = record {
    lines = λ n. q.lines ∙ ap lines_of (listed_same n) ∙ sym p.lines;
    accepted = λ n. q.accepted ∙ ap accepted_of (listed_same n) ∙ sym p.accepted;
    whole = λ x y. q.records ∙ ap length (all_listed q y ∙ entries_same t part part' h ∙ sym (all_listed p x)) ∙ sym p.records;
  }

-- ---- what the program's turns hand out

-- two runs of the crew's program on such captures, whatever the size of the pieces in which they came
pub runs_same : (t : Table) (c c' bytes bytes' : List ℕ) → SameCaptures t c c' → Printed t crew c bytes → Printed t crew c' bytes' → bytes' ≡ bytes
runs_same t c c' bytes bytes' h x y = printed_listing y ∙ crew_same t c c' h ∙ sym (printed_listing x)

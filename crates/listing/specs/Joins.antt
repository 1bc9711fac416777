-- The pieces of a capture join to its listing: what a program that lists piece by piece has written, turn by turn. Assumes nothing.
use Rattle.std.specs.Prelude.{ℕ, zero, suc, ◌+◌, ◌≤◌, ◌≡◌, refl, Bool, true, false, List, [], ◌++◌, length, take, drop, ℤ}
use Rattle.std.proofs.Common.{arith, sym, ap, ap₂, ◌∙◌, append_assoc, length-append, take-append-drop, take_all}
use Rattle.std.proofs.Math.ListN.{length-drop}
use Rattle.header.specs.Header.{header_test}
use Rattle.header.specs.HeaderLaws.{header_first}
use Rattle.tables.specs.declared.Table.{Table}
use Rattle.tables.specs.Tables.{Slot, held}
use Rattle.rule.specs.Reading.{Outcome, accepted, refused}
use Rattle.capture.specs.Capture as capture
use Rattle.capture.specs.Capture.{slot_at, unpacked}
use Rattle.lines.specs.Lines.{last_line, header_line, Entry, Lines, accepted_in, decoded_by, record_entry}
use Rattle.pieces.specs.declared.Listed.{Listed}
use Rattle.pieces.specs.Listing.{lines_of, accepted_of, entries_for, entries_of, listing_of, start}
use Rattle.pieces.specs.Pieces.{Lists, Whole, entries}
use Rattle.entries.specs.EntryLaws.{entries_turns}
use Rattle.pieces.specs.PieceLaws.{entries-nil, whole_nil, whole_append, lines_append, accepted_append}

-- the state of a program that lists the records s: the text that it has written, the records and accepted records that it has counted,
-- the bytes that it holds, and those that it has not read yet
pub record Progress (t : Table) (reader : Lines) (s text : List ℕ) (records ok : ℕ) (held unread : List ℕ) : Type 0 where
  pub done : List ℕ
  pub input : s ≡ done ++ (held ++ unread)
  pub whole : Whole t reader done
  pub lines : text ≡ lines_of (entries t reader done)
  pub counted : records ≡ length (entries t reader done)
  pub accepted : ok ≡ accepted_of (entries t reader done)

-- ---- how many entries there can be

ok_most : (o : Outcome) → accepted_in o ≤ 1
ok_most (accepted d k l) = omega arith
ok_most (refused e k l) = omega arith

one_more : (reader : Lines) (slot : Slot) (a : capture.Answer) (s : List ℕ) (more : List ℕ → List Entry) (k : ℕ)
    → ((u : List ℕ) → (length (more u) ≤ k) × (accepted_of (more u) ≤ k)) → (length (entries_for reader slot a s more) ≤ suc k) × (accepted_of (entries_for reader slot a s more) ≤ suc k)
unfolding record_entry
one_more reader slot capture.none_left s more k h = (omega arith, omega arith)
one_more reader slot (capture.refused number serial) s more k h = (omega arith, omega arith)
one_more reader slot (capture.record_at serial number next) s more k h =
    (omega (arith, (h (drop next s)).0), omega (arith, (h (drop next s)).1, ok_most (decoded_by (held slot) (unpacked slot s))))

few_entries : (t : Table) (reader : Lines) (k : ℕ) (s : List ℕ) → (length (entries_of t reader k s) ≤ k) × (accepted_of (entries_of t reader k s) ≤ k)
unfolding entries_of
few_entries t reader zero s = (omega arith, omega arith)
few_entries t reader (suc k) s = one_more reader (slot_at t s) (start (slot_at t s) s) s (entries_of t reader k) k (few_entries t reader k)

-- ---- turn by turn

module _ {t : Table} {reader : Lines} where
  -- it starts with nothing written, nothing counted and nothing held
  pub starts : (s : List ℕ) → Progress t reader s [] 0 0 [] s
  starts s = record {
    done = [];
    input = refl;
    whole = whole_nil;
    lines = ap lines_of (sym (entries-nil t reader));
    counted = ap length (sym (entries-nil t reader));
    accepted = ap accepted_of (sym (entries-nil t reader));
  }

  -- it reads: what comes is held after what it held
  pub reads : {s text held : List ℕ} {records ok : ℕ} (new unread : List ℕ) → Progress t reader s text records ok held (new ++ unread) → Progress t reader s text records ok (held ++ new) unread
  reads {held = held} new unread p = record {
    done = p.done;
    input = p.input ∙ ap (λ (t : List ℕ). p.done ++ t) (sym (append_assoc held new unread));
    whole = p.whole;
    lines = p.lines;
    counted = p.counted;
    accepted = p.accepted;
  }

  -- it lists what it holds and writes the lines; `last` where nothing is unread
  module _ {s text held unread before after : List ℕ} {area area' : List ℤ} {records ok : ℕ} {last : Bool} {d : Listed}
      (p : Progress t reader s text records ok held unread) (l : Lists t reader held last before after area area' d) where
    abbrev x : List ℕ
    x = take d.consumed held

    joins : entries t reader (p.done ++ x) ≡ entries t reader p.done ++ entries t reader x
    joins = p.whole.joins x

    text_then : text ++ take d.written after ≡ lines_of (entries t reader (p.done ++ x))
    text_then = ap₂ (λ (u v : List ℕ). u ++ v) p.lines l.piece.lines ∙ sym (lines_append (entries t reader p.done) (entries t reader x)) ∙ ap lines_of (sym joins)

    records_then : records + d.records ≡ length (entries t reader (p.done ++ x))
    records_then = ap₂ ◌+◌ p.counted l.piece.records ∙ sym (length-append (entries t reader p.done) (entries t reader x)) ∙ ap length (sym joins)

    accepted_then : ok + d.accepted ≡ accepted_of (entries t reader (p.done ++ x))
    accepted_then = ap₂ ◌+◌ p.accepted l.piece.accepted ∙ sym (accepted_append (entries t reader p.done) (entries t reader x)) ∙ ap accepted_of (sym joins)

    -- then it holds the rest, and goes on
    pub turns : d.ended ≡ false → Progress t reader s (text ++ take d.written after) (records + d.records) (ok + d.accepted) (drop d.consumed held) unread
    turns e = record {
      done = p.done ++ x;
      input = p.input
          ∙ ap (λ (t : List ℕ). p.done ++ (t ++ unread)) (sym (take-append-drop d.consumed held))
          ∙ ap (λ (t : List ℕ). p.done ++ t) (append_assoc x (drop d.consumed held) unread)
          ∙ sym (append_assoc p.done x (drop d.consumed held ++ unread));
      whole = whole_append p.whole (l.piece.goes_on e);
      lines = text_then;
      counted = records_then;
      accepted = accepted_then;
    }

    -- or the listing has ended, and the lines and counts are those of all of s
    ended : d.ended ≡ true → (last ≡ true → unread ≡ []) → entries t reader s ≡ entries t reader (p.done ++ x)
    ended e f =
        ap (entries t reader) p.input ∙ p.whole.joins (held ++ unread)
        ∙ ap (λ (es : List Entry). entries t reader p.done ++ es) (l.piece.alone e unread f ∙ ap (entries t reader) (sym (take_all d.consumed held (omega (arith, l.piece.all e)))))
        ∙ sym joins

    pub counts_few : d.ended ≡ true → (last ≡ true → unread ≡ []) → (records + d.records ≤ length s) × (ok + d.accepted ≤ length s)
    counts_few e f =
        let few = few_entries t reader (length s) s in
        (omega (arith, records_then, ap length (ended e f), few.0), omega (arith, accepted_then, ap accepted_of (ended e f), few.1))

module _ (t : Table) (reader : Lines) where
  -- ---- the whole

  -- a program reads five bytes for the header, and where they are wrong prints one line
  pub listing_refused : (c : List ℕ) → header_test (take 5 c) ≡ false → listing_of t reader c ≡ header_line
  unfolding listing_of
  listing_refused c h = rw (sym (header_first c) ∙ h)

  pub listing_is : (c : List ℕ) → header_test (take 5 c) ≡ true → listing_of t reader c ≡ lines_of (entries t reader (drop 5 c)) ++ last_line (length (entries t reader (drop 5 c))) (accepted_of (entries t reader (drop 5 c)))
  unfolding listing_of
  listing_is c h = rw (sym (header_first c) ∙ h, entries_turns t reader (length c) (drop 5 c) (omega (arith, length-drop 5 c)))

  -- else it lists what follows, and once the listing has ended prints the last line
  pub listing_joins : {text held unread before after : List ℕ} {area area' : List ℤ} {records ok : ℕ} {last : Bool} {d : Listed} (c : List ℕ) → header_test (take 5 c) ≡ true
      → Progress t reader (drop 5 c) text records ok held unread → Lists t reader held last before after area area' d → d.ended ≡ true → (last ≡ true → unread ≡ [])
      → listing_of t reader c ≡ (text ++ take d.written after) ++ last_line (records + d.records) (ok + d.accepted)
  listing_joins c h p l e f = listing_is c h ∙ rw (ended p l e f, text_then p l, records_then p l, accepted_then p l)

-- What stands at the start of a part, listed: one law for each answer of the capture reader. Assumes nothing.
use Rattle.std.specs.Prelude.{ℕ, ◌*◌, ◌≤◌, ◌<◌, ◌≡◌, refl, Bool, true, false, cond, not, List, [], ◌∷◌, ◌++◌, eqb, ltb, length, take, ℤ, Some, Ok, None, IsSome}
use Rattle.std.proofs.Math.Decide.{dec_lt}
use Rattle.std.proofs.Common.{arith, sym, ap, ◌∙◌, append-nil, eqb-true}
use Rattle.std.proofs.lemmas.Bool.{false≢true}
use Rattle.std.proofs.Math.Seq.{take-length}
use Rattle.words.specs.Word.{IsWord}
use Rattle.words.proofs.WordLaws.{word_tabulate}
use Rattle.profiles.specs.declared.Profile.{Profile}
use Rattle.tables.specs.declared.Table.{Table}
use Rattle.tables.specs.Tables.{Slot, is_there, held}
use Rattle.tables.specs.Slots.{Proper}
use Rattle.unpacking.specs.Packed.{packed_bit}
use Rattle.capture.specs.Capture as capture
use Rattle.capture.specs.Capture.{Found, answer_of, buffer_of, record_in, record_size, slot_at, unpacked, word_size, body_length, Stands}
use Rattle.capture.specs.Cases.{none, known_body, own_size, sized}
use Rattle.rule.specs.Reading.{Outcome, accepted, refused}
use Rattle.rule.specs.Decoding.{zeros}
use Rattle.lines.specs.Lines.{Lines, Entry, entry, accepted_in, decoded_by, record_entry}
use Rattle.text.specs.Texts.{Appended}
use Rattle.text.specs.TextLaws.{appended_within}
use Rattle.entries.specs.declared.records.Line.{Line}
use Rattle.entries.specs.Decodable.{Decodable, Lined, line_in, ok_in}
use Rattle.pieces.specs.Listing.{lines_of, accepted_of, is_record, start, starts_record}
use Rattle.pieces.specs.Pieces.{area_after, entries}
use Rattle.pieces.specs.Steps.{Steps}
use Rattle.entries.specs.EntryLaws.{record_of, record_entry_lem, record_whole, entries_refused, ends_alone}
use Rattle.pieces.specs.PieceLaws.{entries-nil}

-- ---- what the answer says of the part

-- a test that is not the first leads to no `none_left`
never : (t : Bool) {x y : capture.Answer} → (x ≡ capture.none_left → ⊥) → (y ≡ capture.none_left → ⊥) → cond t x y ≡ capture.none_left → ⊥
never true p q = p
never false p q = q

no_refusal : {n i : ℕ} → capture.refused n i ≡ capture.none_left → ⊥
no_refusal e = let y : ◌≡◌ {A = ℕ} 0 1 = cc in omega arith

no_record : {i p n : ℕ} → capture.record_at i p n ≡ capture.none_left → ⊥
no_record e = let y : ◌≡◌ {A = ℕ} 0 1 = cc in omega arith

empty : (t : Bool) {y : capture.Answer} → (y ≡ capture.none_left → ⊥) → cond t capture.none_left y ≡ capture.none_left → t ≡ true
empty true h e = refl
empty false h e = absurd (h e)

none_length : (slot : Slot) (s : List ℕ) → start slot s ≡ capture.none_left → length s ≡ 0
unfolding record_in
none_length slot s e =
    eqb-true (length s) 0
    (empty (eqb (length s) 0)
    (never (ltb (length s) 5) no_refusal
    (never (not (is_there slot)) no_refusal
    (never (ltb (length s) (record_size slot)) no_refusal
    (never (eqb (word_size slot) (word_size slot)) no_record no_refusal))))
    e)

refused-length : (slot : Slot) (s : List ℕ) {number serial : ℕ} → start slot s ≡ capture.refused number serial → 0 < length s
refused-length slot s e = elim (dec_lt 0 (length s)) [
  | yes l ↦ l
  | no k ↦ let z : capture.none_left ≡ start slot s = none slot s 0 (word_size slot) (omega arith) in let y : ◌≡◌ {A = ℕ} 0 1 = cc in absurd (omega arith)
]

ok_most : (o : Outcome) → accepted_in o ≤ 1
ok_most (accepted d k l) = omega arith
ok_most (refused e k l) = omega arith

entry_ok : (reader : Lines) (serial number : ℕ) (p : Profile) (word : List ℕ) → ok_in (record_entry reader serial number p word) ≤ 1
unfolding record_entry
entry_ok reader serial number p word = ok_most (decoded_by p word)

lines_one : (e : Entry) → lines_of (e ∷ []) ≡ line_in e
lines_one (entry line ok) = append-nil line

accepted_one : (e : Entry) → accepted_of (e ∷ []) ≡ ok_in e
accepted_one (entry line ok) = omega arith

-- ---- what the capture reader found

module _ {slot : Slot} {part word word' : List ℕ} {f : Found} (proper : Proper slot) (size : length word ≡ 8 * body_length slot part) (c : Stands slot part 0 word word' f) where
  pub found_start : start slot part ≡ answer_of f
  found_start = sym (c.answer ∙ ap (record_in slot part 0) size ∙ own_size slot part 0 proper)

  pub found_word : {serial number next : ℕ} → f ≡ Ok (Some (record { serial = serial; profile = number; next = next })) → word' ≡ unpacked slot part
  found_word e = c.buffer ∙ ap (λ (a : capture.Answer). buffer_of slot a part word) (sym c.answer ∙ ap answer_of e)

-- ---- a record's word

-- the entry of a record that was found is there
pub record_there : (slot : Slot) (s : List ℕ) {serial number next : ℕ} → start slot s ≡ capture.record_at serial number next → IsSome slot
record_there slot s e = by slot (record_of slot s e).known
  where
    by : (x : Slot) → is_there x ≡ true → IsSome x
    by (Some p) h = refl
    by None h = absurd (false≢true h)

pub record_decodable : (slot : Slot) (s : List ℕ) {serial number next : ℕ} {word : List ℕ} (room area : ℕ) → Proper slot → start slot s ≡ capture.record_at serial number next
    → word ≡ unpacked slot s → room ≡ length word → 64 * body_length slot s ≤ area → Decodable (held slot) word room area
unfolding unpacked
record_decodable slot s {word = word} room area proper e w q h =
    let r = record_of slot s e in
    let is : IsWord (held slot).m word = rw w (word_tabulate (held slot).m (packed_bit s) (λ p l. omega arith)) in
    record {
      limits = proper.limits r.known;
      sizes = record { input = is; output = q ∙ is.size; lent = omega (arith, known_body slot s r.head r.known, (sized slot proper r.known).bytes) };
    }

-- ---- the steps

-- whether a record stands there, by what the table has at its profile; and the area, as it was or cleared
module _ (t : Table) (part : List ℕ) where
  reads_by : {slot : Slot} {a : capture.Answer} → slot ≡ slot_at t part → start slot part ≡ a → starts_record t part ≡ is_record a
  reads_by {slot} q e = ap (λ (x : Slot). is_record (start x part)) (sym q) ∙ ap is_record e

  untouched : (area : List ℤ) → starts_record t part ≡ false → area ≡ area_after (starts_record t part) area
  untouched area e = rw e

  cleared : (area : List ℤ) {area' : List ℤ} → starts_record t part ≡ true → area' ≡ zeros area → area' ≡ area_after (starts_record t part) area
  cleared area e h = rw (e, h)

module _ {reader : Lines} {slot : Slot} {part before : List ℕ} {at : ℕ} (h : at ≤ length before) where
  -- no byte is left
  pub step_none : start slot part ≡ capture.none_left → (area : List ℤ) → Steps reader slot part before at before area area (record { consumed = 0; written = at; records = 0; accepted = 0; ended = true })
  step_none e area = record {
    under = λ t q. let f : start (slot_at t part) part ≡ capture.none_left = ap (λ (x : Slot). start x part) (sym q) ∙ e in record {
      piece = record {
        within = omega arith;
        counted = h;
        past = refl;
        lines = sym (append-nil (take at before)) ∙ ap (λ (es : List Entry). take at before ++ lines_of es) (sym (entries-nil t reader));
        records = ap length (sym (entries-nil t reader));
        accepted = ap accepted_of (sym (entries-nil t reader));
        few = omega arith;
        fewer = omega arith;
        goes_on = λ z. absurd (false≢true (sym z));
        all = λ z. sym (none_length slot part e);
        alone = λ z. ends_alone t reader part (λ i p n g. let y : ◌≡◌ {A = ℕ} 0 1 = cc in omega arith);
      };
      moves = λ z. absurd (false≢true (sym z));
      reads = ap not (sym (reads_by t part q e));
      lent = untouched t part area (reads_by t part q e);
    };
  }

  -- a refusal, 14 or 16
  pub step_refused : {number serial end : ℕ} {after : List ℕ} → start slot part ≡ capture.refused number serial
      → Appended before at (reader.of_refusal number serial) end after → (area : List ℤ)
      → Steps reader slot part before at after area area (record { consumed = length part; written = end; records = 1; accepted = 0; ended = true })
  step_refused {number} {serial} {end} {after} e a area = record {
    under = λ t q.
        let f : start (slot_at t part) part ≡ capture.refused number serial = ap (λ (x : Slot). start x part) (sym q) ∙ e in
        let line : Entry = entry (reader.of_refusal number serial) 0 in
        let es : entries t reader (take (length part) part) ≡ line ∷ [] = ap (entries t reader) (take-length part) ∙ entries_refused t reader part f in
        record {
          piece = record {
            within = omega arith;
            counted = appended_within a h;
            past = a.past;
            lines = a.holds ∙ ap (λ (l : List ℕ). take at before ++ l) (sym (lines_one line) ∙ ap lines_of (sym es));
            records = ap length (sym es);
            accepted = ap accepted_of (sym es);
            few = refused-length slot part e;
            fewer = omega arith;
            goes_on = λ z. absurd (false≢true (sym z));
            all = λ z. refl;
            alone = λ z. ends_alone t reader part (λ i p n g. let y : ◌≡◌ {A = ℕ} 0 1 = cc in omega arith);
          };
          moves = λ z. absurd (false≢true (sym z));
          reads = ap not (sym (reads_by t part q e));
          lent = untouched t part area (reads_by t part q e);
        };
  }

  -- a record
  pub step_record : {serial number next : ℕ} {word after : List ℕ} {area area' : List ℤ} {line : Line} → start slot part ≡ capture.record_at serial number next
      → word ≡ unpacked slot part → Lined (record_entry reader serial number (held slot) word) before at after line × (area' ≡ zeros area)
      → Steps reader slot part before at after area area' (record { consumed = next; written = line.end; records = 1; accepted = line.accepted; ended = false })
  step_record {serial} {number} {next} {after = after} {area} {line = line} e w l = record {
    under = λ t q.
        let f : start (slot_at t part) part ≡ capture.record_at serial number next = ap (λ (x : Slot). start x part) (sym q) ∙ e in
        let r = record_of slot part e in
        let it : Entry = record_entry reader serial number (held slot) (unpacked slot part) in
        let a : Lined it before at after line = rw w at l.0 in
        let es : entries t reader (take next part) ≡ it ∷ [] = record_entry_lem t reader part f
        ∙ ap (λ (x : Slot). record_entry reader serial number (held x) (unpacked x part) ∷ []) (sym q) in
        record {
          piece = record {
            within = omega (arith, r.next_is, r.fits);
            counted = appended_within a.text h;
            past = a.text.past;
            lines = a.text.holds ∙ ap (λ (l : List ℕ). take at before ++ l) (sym (lines_one it) ∙ ap lines_of (sym es));
            records = ap length (sym es);
            accepted = a.counted ∙ sym (accepted_one it) ∙ ap accepted_of (sym es);
            few = omega (arith, r.next_is);
            fewer = omega (arith, a.counted, entry_ok reader serial number (held slot) (unpacked slot part));
            goes_on = λ z. record_whole t reader part f;
            all = λ z. absurd (false≢true z);
            alone = λ z. absurd (false≢true z);
          };
          moves = λ y. omega (arith, r.next_is);
          reads = ap not (sym (reads_by t part q e));
          lent = cleared t part area (reads_by t part q e) l.1;
        };
  }

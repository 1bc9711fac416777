-- The entries of a capture's records: how often the definition is turned does not matter, and a record's entry depends on the record
-- alone. Assumes nothing.
use Prim.Native.Nat.{ℕ, zero, suc, ◌+◌, ◌-◌, ◌/◌, ◌%◌, ◌^◌, ◌≤◌, ◌<◌}
use Rattle.std.proofs.Common.{le_refl, arith, sym, ap₂, ◌∙◌, length-append, length-drop, take-append-drop, length-take-le, get_or-take, drop_at, ltb-false}
use Rattle.std.proofs.Math.Decide.{dec_le}
use Rattle.std.specs.Prelude.{◌≡◌, Bool, true, false, cond, not, eqb, ltb, length, get_or, take, drop}
use Rattle.std.proofs.Math.Path.{refl, ap}
use mathlib.Core.List.{List, [], ◌∷◌, ◌++◌, append-nil}
use Rattle.std.proofs.Math.ListN.{get_or-append}
use Rattle.std.proofs.lemmas.Bool.{not-false}
use Rattle.words.specs.SumLaws.{tabulate_ext}
use Rattle.capture.specs.Capture as capture
use Rattle.tables.specs.declared.Table.{Table}
use Rattle.tables.specs.Tables.{Slot, held, is_there, slot_of}
use Rattle.tables.specs.Slots.{slot_proper}
use Rattle.capture.specs.Capture.{profile_at, record_in, record_size, serial_of, slot_at, unpacked, word_size, body_length}
use Rattle.capture.specs.Cases.{Sized, sized, known_body, unknown, whole}
use Rattle.lines.specs.Lines.{Entry, entry, Lines, record_entry}
use Rattle.pieces.specs.Listing.{entries_for, entries_of, start}
use Rattle.pieces.specs.Pieces.{Whole, entries}
use Rattle.pieces.specs.Steps.{Cut}

-- ---- a record at the start of s

pub record IsRecord (slot : Slot) (s : List ℕ) (serial number next : ℕ) : Type 0 where
  pub head : 5 ≤ length s
  pub known : is_there slot ≡ true
  pub fits : record_size slot ≤ length s
  pub serial_is : serial ≡ serial_of s
  pub number_is : number ≡ profile_at s
  pub next_is : next ≡ record_size slot

-- a test on the way to a record, and its last
skipped : (t : Bool) {x y : capture.Answer} {a b c : ℕ} → (x ≡ capture.record_at a b c → ⊥) → cond t x y ≡ capture.record_at a b c → (t ≡ false) × (y ≡ capture.record_at a b c)
skipped true h e = absurd (h e)
skipped false h e = (refl, e)

taken : (t : Bool) {x y : capture.Answer} {a b c : ℕ} → (y ≡ capture.record_at a b c → ⊥) → cond t x y ≡ capture.record_at a b c → (t ≡ true) × (x ≡ capture.record_at a b c)
taken true h e = (refl, e)
taken false h e = absurd (h e)

no_none : {a b c : ℕ} → capture.none_left ≡ capture.record_at a b c → ⊥
no_none e = let z : ◌≡◌ {A = ℕ} 0 1 = cc in omega arith

no_refusal : {n i a b c : ℕ} → capture.refused n i ≡ capture.record_at a b c → ⊥
no_refusal e = let z : ◌≡◌ {A = ℕ} 0 1 = cc in omega arith

pub record_of : (slot : Slot) (s : List ℕ) {serial number next : ℕ} → start slot s ≡ capture.record_at serial number next → IsRecord slot s serial number next
unfolding record_in
record_of slot s {serial} {number} {next} e =
    let (t0, e0) = skipped (eqb (length s) 0) no_none e in
    let (t1, e1) = skipped (ltb (length s) 5) no_refusal e0 in
    let (t2, e2) = skipped (not (is_there slot)) no_refusal e1 in
    let (t3, e3) = skipped (ltb (length s) (record_size slot)) no_refusal e2 in
    let (t4, e4) = taken (eqb (word_size slot) (word_size slot)) no_refusal e3 in
    record {
      head = ltb-false (length s) 5 t1;
      known = not-false (is_there slot) t2;
      fits = ltb-false (length s) (record_size slot) t3;
      serial_is = cc;
      number_is = cc;
      next_is = let z : next ≡ 0 + record_size slot = cc in omega arith;
    }

-- t begins as s does, up to the end of s's record
record SameStart (next : ℕ) (s t : List ℕ) : Type 0 where
  same : (i : ℕ) → i < next → get_or t i 0 ≡ get_or s i 0

-- ---- under a table, for a reader

module _ (t : Table) (reader : Lines) where
  -- ---- the number of turns

  step : (k : ℕ) (s : List ℕ) → entries_of t reader (suc k) s ≡ entries_for reader (slot_at t s) (start (slot_at t s) s) s (entries_of t reader k)
  unfolding entries_of
  step k s = refl

  none : (s : List ℕ) → length s ≤ 0 → (k : ℕ) → entries_of t reader k s ≡ []
  unfolding entries_of record_in
  none [] h zero = refl
  none [] h (suc k) = refl
  none (b ∷ s) h k = absurd (omega arith)

  -- turns beyond the length change nothing
  turn : (k k' : ℕ) (s : List ℕ) → length s ≤ suc k → length s ≤ suc k' → ((u : List ℕ) → length u ≤ k → length u ≤ k' → entries_of t reader k u ≡ entries_of t reader k' u)
      → (a : capture.Answer) → start (slot_at t s) s ≡ a → entries_for reader (slot_at t s) a s (entries_of t reader k) ≡ entries_for reader (slot_at t s) a s (entries_of t reader k')
  turn k k' s h h' same capture.none_left e = refl
  turn k k' s h h' same (capture.refused n i) e = refl
  turn k k' s h h' same (capture.record_at i p next) e =
      let r = record_of (slot_at t s) s e in
      ap (λ (es : List Entry). record_entry reader i p (held (slot_at t s)) (unpacked (slot_at t s) s) ∷ es)
      (same (drop next s) (omega (arith, length-drop next s, r.next_is)) (omega (arith, length-drop next s, r.next_is)))

  turns : (k k' : ℕ) (s : List ℕ) → length s ≤ k → length s ≤ k' → entries_of t reader k s ≡ entries_of t reader k' s
  turns zero k' s h h' = none s h zero ∙ sym (none s h k')
  turns (suc k) zero s h h' = none s h' (suc k) ∙ sym (none s h' zero)
  turns (suc k) (suc k') s h h' = step k s ∙ turn k k' s h h' (λ u. turns k k' u) (start (slot_at t s) s) refl ∙ sym (step k' s)

  pub entries_turns : (k : ℕ) (s : List ℕ) → length s ≤ k → entries_of t reader k s ≡ entries t reader s
  entries_turns k s h = turns k (length s) s h (le_refl (length s))

  -- ---- the entries, by what stands at the start

  entries_step : (s : List ℕ) → entries t reader s ≡ entries_for reader (slot_at t s) (start (slot_at t s) s) s (entries_of t reader (length s))
  entries_step s = sym (entries_turns (suc (length s)) s (omega arith)) ∙ step (length s) s

  module _ (s : List ℕ) where
    first : {a : capture.Answer} → start (slot_at t s) s ≡ a → entries t reader s ≡ entries_for reader (slot_at t s) a s (entries_of t reader (length s))
    first e = entries_step s ∙ ap (λ (a : capture.Answer). entries_for reader (slot_at t s) a s (entries_of t reader (length s))) e

    pub entries_refused : {number serial : ℕ} → start (slot_at t s) s ≡ capture.refused number serial → entries t reader s ≡ entry (reader.of_refusal number serial) 0 ∷ []
    entries_refused e = first e

    pub entries_record : {serial number next : ℕ} → start (slot_at t s) s ≡ capture.record_at serial number next
        → entries t reader s ≡ record_entry reader serial number (held (slot_at t s)) (unpacked (slot_at t s) s) ∷ entries t reader (drop next s)
    entries_record {serial} {number} {next} e =
        first e
        ∙ ap (λ (es : List Entry). record_entry reader serial number (held (slot_at t s)) (unpacked (slot_at t s) s) ∷ es)
        (entries_turns (length s) (drop next s) (omega (arith, length-drop next s)))

-- ---- a record by itself

module _ (t : Table) {s u : List ℕ} {serial number next : ℕ} (r : IsRecord (slot_at t s) s serial number next) (b : SameStart next s u) (long : next ≤ length u) where
  size : Sized (slot_at t s)
  size = sized (slot_at t s) (slot_proper t (profile_at s)) r.known

  same_profile : profile_at u ≡ profile_at s
  same_profile = b.same 4 (omega (arith, r.next_is))

  same_slot : slot_at t u ≡ slot_at t s
  same_slot = ap (slot_of t) same_profile

  same_serial : serial_of u ≡ serial_of s
  same_serial = rw (b.same 0 (omega (arith, r.next_is)), b.same 1 (omega (arith, r.next_is)), b.same 2 (omega (arith, r.next_is)), b.same 3 (omega (arith, r.next_is)))

  same_word : unpacked (slot_at t s) u ≡ unpacked (slot_at t s) s
  unfolding unpacked
  same_word = tabulate_ext (word_size (slot_at t s)) _ _ (λ p l. ap (λ (x : ℕ). x / 2 ^ (7 - p % 8) % 2) (b.same (5 + p / 8) (omega (arith, r.next_is, size.bytes))))

  same_record : start (slot_at t u) u ≡ capture.record_at serial number next
  same_record =
      let z = r.next_is in
      let w = whole (slot_at t s) u 0 (word_size (slot_at t s)) (λ e. omega arith) (omega arith) r.known (omega arith) refl in
      let es : serial_of u ≡ serial = same_serial ∙ sym r.serial_is in
      let ep : profile_at u ≡ number = same_profile ∙ sym r.number_is in
      let en : 0 + record_size (slot_at t s) ≡ next = omega arith in
      ap (λ (x : Slot). start x u) same_slot ∙ cc

module _ (t : Table) (reader : Lines) (s : List ℕ) {serial number next : ℕ} (e : start (slot_at t s) s ≡ capture.record_at serial number next) where
  abbrev r : IsRecord (slot_at t s) s serial number next
  r = record_of (slot_at t s) s e

  abbrev its : Entry
  its = record_entry reader serial number (held (slot_at t s)) (unpacked (slot_at t s) s)

  first_length : length (take next s) ≡ next
  first_length = length-take-le next s (omega (arith, r.next_is, r.fits))

  same_first : (more : List ℕ) → SameStart next s (take next s ++ more)
  same_first more = record { same = λ i l. get_or-append (take next s) more 0 i (omega (arith, first_length)) ∙ get_or-take next s i 0 l }

  -- whatever follows the record: its entry, and the entries of what follows
  pub record_then : (more : List ℕ) → entries t reader (take next s ++ more) ≡ its ∷ entries t reader more
  record_then more =
      let long : next ≤ length (take next s ++ more) = omega (arith, first_length, length-append (take next s) more) in
      entries_record t reader (take next s ++ more) (same_record t r (same_first more) long)
      ∙ ap (λ (x : Slot). record_entry reader serial number (held x) (unpacked x (take next s ++ more)) ∷ entries t reader (drop next (take next s ++ more))) (same_slot t r (same_first more) long)
      ∙ ap₂ (λ (w : List ℕ) (es : List Entry). record_entry reader serial number (held (slot_at t s)) w ∷ es)
      (same_word t r (same_first more) long) (ap (entries t reader) (drop_at (take next s) more next first_length))

  pub record_entry_lem : entries t reader (take next s) ≡ its ∷ []
  unfolding entries_of
  record_entry_lem = ap (entries t reader) (sym (append-nil (take next s))) ∙ record_then []

  -- the record by itself has the entry that it has in s
  pub record_alone : entries t reader s ≡ entries t reader (take next s) ++ entries t reader (drop next s)
  record_alone =
      ap (entries t reader) (sym (take-append-drop next s)) ∙ record_then (drop next s) ∙ ap (λ (es : List Entry). es ++ entries t reader (drop next s)) (sym record_entry_lem)

  pub record_whole : Whole t reader (take next s)
  record_whole = record { joins = λ more. record_then more ∙ ap (λ (es : List Entry). es ++ entries t reader more) (sym record_entry_lem) }

-- ---- the end of a listing

module _ (t : Table) (reader : Lines) where
  -- a profile that is unknown ends it
  unknown_entry : (s : List ℕ) → 5 ≤ length s → is_there (slot_at t s) ≡ false → entries t reader s ≡ entry (reader.of_refusal 14 (serial_of s)) 0 ∷ []
  unknown_entry s h p = entries_refused t reader s (sym (unknown (slot_at t s) s 0 (word_size (slot_at t s)) (λ e. omega arith) h p))

  unknown_alone : (s more : List ℕ) → 5 ≤ length s → is_there (slot_at t s) ≡ false → entries t reader (s ++ more) ≡ entries t reader s
  unknown_alone s more h p =
      let at : (i : ℕ) → i < 5 → get_or (s ++ more) i 0 ≡ get_or s i 0 = λ i l. get_or-append s more 0 i (omega arith) in
      unknown_entry (s ++ more) (omega (arith, length-append s more)) (ap (λ (n : ℕ). (is_there (slot_of t n))) (at 4 (omega arith)) ∙ p)
      ∙ rw (at 0 (omega arith), at 1 (omega arith), at 2 (omega arith), at 3 (omega arith)) (sym (unknown_entry s h p))

  -- where no whole record stands at the start of s, what follows adds nothing
  pub ends_alone : (s : List ℕ) → ((serial number next : ℕ) → start (slot_at t s) s ≡ capture.record_at serial number next → ⊥) → (more : List ℕ) → Cut t s more
      → entries t reader (s ++ more) ≡ entries t reader s
  ends_alone s none more cut = elim (dec_le (5 + body_length (slot_at t s) s) (length s)) [
    | no k ↦ rw (cut (omega arith)) (ap (entries t reader) (append-nil s))
    | yes h ↦ go (is_there (slot_at t s)) refl h
  ]
    where
      go : (b : Bool) → is_there (slot_at t s) ≡ b → 5 + body_length (slot_at t s) s ≤ length s → entries t reader (s ++ more) ≡ entries t reader s
      go false e h = unknown_alone s more (omega arith) e
      go true e h = absurd (none _ _ _ (sym (whole (slot_at t s) s 0 (word_size (slot_at t s)) (λ z. omega arith) (omega arith) e (omega (arith, known_body (slot_at t s) s (omega arith) e)) refl)))

-- The capture of a load is read back by the capture reader, record by record. Assumes nothing.
use Rattle.std.specs.Prelude.{ℕ, suc, ◌+◌, ◌*◌, ◌/◌, ◌%◌, ◌^◌, ◌≤◌, ◌<◌, ◌≡◌, refl, true, length, drop}
use Rattle.std.proofs.Common.{arith, mod-lt, mul-le-mul_right, sym, subst, ◌∙◌, length-drop, le-ltb}
use Rattle.std.proofs.Math.Path.{ap}
use mathlib.Core.List.{List, [], ◌++◌}
use Rattle.std.proofs.Math.ListN.{get_or, length-append}
use Rattle.std.proofs.Math.Seq.{get_or-append-add, get_or-drop}
use Rattle.words.specs.Sum.{total}
use Rattle.words.specs.SumLaws.{tabulate_ext, tabulate-get_or}
use Rattle.words.specs.Word.{bit}
use Rattle.tables.specs.declared.Table.{Table}
use Rattle.tables.specs.Tables.{Slot, held, is_there, known, slot_of}
use Rattle.tables.specs.Slots.{Proper, slot_known, slot_proper}
use Rattle.header.specs.Header.{header, header_test}
use Rattle.unpacking.specs.Packed.{packed_bit}
use Rattle.capture.specs.Capture.{Found, Answer, Finds, Stands, answer_of, buffer_of, none_left, profile_at, record_at, record_in, record_size, slot_at, unpacked, word_size}
use Rattle.capture.specs.Cases.{Sized, none, sized, whole}
use Rattle.load.specs.Records.{block_at, capture_of, capture_size, nth_record, record_bytes}
use Rattle.load.specs.LoadLaws.{block_word}
use Rattle.load.specs.RecordLaws.{joined_at, joined_length, reads_bit, reads_profile, reads_serial, record_length}

-- a capture of so many blocks: its header is right, record i stands where the records before it end, has the serial i kept to 32 bits and the
-- profile's number, and its word is block i; after the last none is left
pub record ReadsBack (slot : Slot) (number asked start blocks : ℕ) (capture : List ℕ) : Type 0 where
  pub head : header_test capture ≡ true
  pub found : (i : ℕ) → i < blocks
      → record_in slot (drop (capture_size slot i) capture) (capture_size slot i) (word_size slot) ≡ record_at (i % 2 ^ 32) number (capture_size slot (suc i))
  pub word : (i : ℕ) → i < blocks → unpacked slot (drop (capture_size slot i) capture) ≡ block_at slot asked start i
  pub ended : (room : ℕ) → record_in slot (drop (capture_size slot blocks) capture) (capture_size slot blocks) room ≡ none_left

module _ (slot : Slot) (number asked start : ℕ) where
  pub record_size_lem : (i : ℕ) → length (nth_record slot number asked start i) ≡ record_size slot
  unfolding nth_record
  record_size_lem i =
      record_length (i % 2 ^ 32) number (block_at slot asked start i)
      ∙ ap (λ (n : ℕ). 5 + n / 8) (block_word (held slot).m (held slot).r asked _).size

  module _ (blocks : ℕ) where
    pub capture_length : length (capture_of slot number asked start blocks) ≡ capture_size slot blocks
    unfolding capture_of
    capture_length = omega (arith, joined_length (record_size slot) (nth_record slot number asked start) record_size_lem blocks)

    -- what is left of the capture at record i starts with it
    starts : (i q : ℕ) → i < blocks → q < record_size slot
        → get_or (drop (capture_size slot i) (capture_of slot number asked start blocks)) q 0 ≡ get_or (nth_record slot number asked start i) q 0
    unfolding capture_of
    starts i q l h =
        get_or-drop (capture_size slot i) (capture_of slot number asked start blocks) q 0
        ∙ ap (λ (k : ℕ). get_or (capture_of slot number asked start blocks) k 0) {x = capture_size slot i + q} {y = 5 + (i * record_size slot + q)} (omega arith)
        ∙ get_or-append-add header (total ◌++◌ [] blocks (nth_record slot number asked start)) (i * record_size slot + q) 0
        ∙ joined_at (record_size slot) (nth_record slot number asked start) record_size_lem blocks i q l h

    head_right : header_test (capture_of slot number asked start blocks) ≡ true
    unfolding capture_of
    head_right = rw (le-ltb (length (header ++ total ◌++◌ [] blocks (nth_record slot number asked start))) 5 (omega (arith, length-append header (total ◌++◌ [] blocks (nth_record slot number asked start)))))

    module _ (sizes : Sized slot) (is : is_there slot ≡ true) (i : ℕ) (l : i < blocks) where
      abbrev rest : List ℕ
      rest = drop (capture_size slot i) (capture_of slot number asked start blocks)

      size : length (block_at slot asked start i) ≡ word_size slot
      size = (block_word (held slot).m (held slot).r asked _).size

      record_here : (q : ℕ) → q < 5 + length (block_at slot asked start i) / 8
          → get_or rest q 0 ≡ get_or (record_bytes (i % 2 ^ 32) number (block_at slot asked start i)) q 0
      unfolding nth_record
      record_here q h = starts i q l (omega (arith, size))

      profile_here : profile_at rest ≡ number
      profile_here = reads_profile (i % 2 ^ 32) number _ rest record_here

      whole_here : record_size slot ≤ length rest
      whole_here =
          omega (arith, length-drop (capture_size slot i) (capture_of slot number asked start blocks), capture_length, mul-le-mul_right (record_size slot) l)

      found_here : record_in slot rest (capture_size slot i) (word_size slot) ≡ record_at (i % 2 ^ 32) number (capture_size slot (suc i))
      found_here =
          sym (whole slot rest (capture_size slot i) (word_size slot) (λ z. omega (arith, whole_here)) (omega (arith, whole_here)) is whole_here refl)
          ∙ rw (reads_serial (i % 2 ^ 32) number _ rest record_here (mod-lt i (omega arith)), profile_here)
          (ap (record_at (i % 2 ^ 32) number) (omega arith))

      word_here : unpacked slot rest ≡ block_at slot asked start i
      unfolding unpacked
      word_here =
          tabulate_ext (word_size slot) (packed_bit rest) (bit (block_at slot asked start i))
          (λ p h. reads_bit (i % 2 ^ 32) number _ rest record_here (block_word (held slot).m (held slot).r asked _).bits (omega (arith, size, sizes.bytes)) p (omega (arith, size)))
          ∙ tabulate-get_or (word_size slot) (block_at slot asked start i) 0 size

    pub reads_back : Proper slot → is_there slot ≡ true → ReadsBack slot number asked start blocks (capture_of slot number asked start blocks)
    reads_back p is =
        let sizes = sized slot p is in
        record {
          head = head_right;
          found = λ i l. found_here sizes is i l;
          word = λ i l. word_here sizes is i l;
          ended = λ room. sym (none slot _ _ room (omega (arith, length-drop (capture_size slot blocks) (capture_of slot number asked start blocks), capture_length)));
        }

-- ---- calls

-- a call of the capture reader at record i of a written capture, under the table that it was written under
pub call_reads_back :
    (t : Table) (number asked start blocks : ℕ) → known t number ≡ true → (i : ℕ) → i < blocks → {word word' : List ℕ} {f : Found} → length word ≡ word_size (slot_of t number)
    → Finds t (capture_of (slot_of t number) number asked start blocks) (capture_size (slot_of t number) i) word word' f
    → (answer_of f ≡ record_at (i % 2 ^ 32) number (capture_size (slot_of t number) (suc i))) × (word' ≡ block_at (slot_of t number) asked start i)
call_reads_back t number asked start blocks k i l {word} {word'} {f} room c =
    let slot : Slot = slot_of t number in
    let is : is_there slot ≡ true = ap (λ (s : Slot). is_there s) (slot_known t number k) in
    let sizes : Sized slot = sized slot (slot_proper t number) is in
    let at : ℕ = capture_size slot i in
    let rest : List ℕ = drop at (capture_of slot number asked start blocks) in
    let same : slot_at t rest ≡ slot = ap (slot_of t) (profile_here slot number asked start blocks sizes is i l) in
    let s : Stands slot rest at word word' f = subst (λ (x : Slot). Stands x rest at word word' f) same c in
    let e = ap (record_in slot rest at) room ∙ found_here slot number asked start blocks sizes is i l in
    (s.answer ∙ e, s.buffer ∙ ap (λ (x : Answer). buffer_of slot x rest word) e ∙ word_here slot number asked start blocks sizes is i l)

-- Captures as the code writes them. Assumes nothing.
use Prim.Native.Nat.{ℕ, ◌+◌, ◌-◌, ◌*◌, ◌/◌, ◌%◌, ◌^◌, ◌≤◌, ◌<◌}
use Rattle.std.proofs.Common.{arith, div-add-mod', mul-div_cancel, mul-le-mul_right, ◌∙◌}
use Rattle.std.proofs.Math.Nat.{mul-mod_left, suc-mul}
use Rattle.std.proofs.Math.Numerals.{add-one}
use Rattle.std.specs.Prelude.{◌≡◌, refl, Bool, false, drop, take, Ok, Err}
use Rattle.std.proofs.Math.Path.{sym, ap, ap₂}
use Rattle.std.proofs.Math.Bool.{true}
use Rattle.std.proofs.lemmas.Bool.{false≢true}
use mathlib.Core.List.{List, [], ◌++◌}
use Rattle.std.proofs.Math.Dec.{eqb, ltb}
use Rattle.std.proofs.Math.ListN.{length}
use borrow.Author.Tests.{eq-eqb, eqb-true, ne_eqb}
use borrow.Rule.Slice.PartMut.{put_mid}
use Rattle.words.specs.Parts.{part_length, written_part}
use Rattle.words.specs.Sum.{total}
use Rattle.words.specs.SumLaws.{same_test, sum_more, sum_most, tabulate-get_or}
use Rattle.words.specs.Word.{IsWord, bit, indicator}
use Rattle.words.proofs.WordLaws.{indicator-lt}
use Rattle.words.specs.Written.{Written, written_all, written_none, written_to}
use Rattle.refusals.specs.Refusals.{Checked, answer_number, answer_place, first_refusal}
use Rattle.refusals.proofs.CheckLaws.{number_pos}
use Rattle.refusals.specs.declared.Refusal.{Refusal}
use Rattle.tables.specs.declared.Table.{Table}
use Rattle.tables.specs.Tables.{Slot, held, is_there, known, slot_of}
use Rattle.tables.specs.Limits.{is_known}
use Rattle.tables.specs.Slots.{Proper, slot_proper, slot_unknown}
use Rattle.header.specs.Header.{header}
use Rattle.generator.specs.declared.Places.{Places}
use Rattle.capture.specs.Capture.{record_size}
use Rattle.load.specs.CallLaws.{nowhere}
use Rattle.load.specs.Load.{left_short, state_before}
use Rattle.load.specs.LoadLaws.{block_word}
use Rattle.load.specs.Records.{capture_checks, capture_of, nth_record, record_bytes, short_among, state_at, Writes}
use Rattle.load.specs.ReadBack.{record_size_lem}
use Rattle.load.specs.RecordLaws.{joined_at, joined_length}
use Rattle.load.specs.Steps.{BlockDrawn, RecordDrawn, RecordsDrawn}
use Rattle.load.specs.declared.Captured.{Captured}

-- ---- one record

pub drawn_word : {m r asked x : ℕ} {sent block : List ℕ} {p : Places} → BlockDrawn m r asked x sent block p → IsWord m block
drawn_word {m} {r} {asked} {x} d = rw d.block_is (block_word m r asked x)

pub record_drawn :
    {slot : Slot} {number asked x i : ℕ} {sent block out : List ℕ} {p : Places} → BlockDrawn (held slot).m (held slot).r asked x sent block p
    → out ≡ record_bytes (i % 2 ^ 32) number block → RecordDrawn slot number asked x i out p
unfolding left_short
record_drawn {asked = asked} d e = record { bytes = e ∙ rw d.block_is; state = d.state; short = ap (λ (w : ℕ). ltb w asked) d.wrong }

-- ---- the loop

-- whether block i is left short, and as a number
abbrev left_at : Slot → ℕ → ℕ → ℕ → Bool
left_at slot asked start i = left_short (held slot).m (held slot).r asked (state_at slot asked start i)

abbrev short_at : Slot → ℕ → ℕ → ℕ → ℕ
short_at slot asked start i = indicator (left_at slot asked start i)

-- i records are written
pub record Recorded (slot : Slot) (number asked start blocks : ℕ) (before after : List ℕ) (state short i : ℕ) : Type 0 where
  pub within : i ≤ blocks
  pub long : length after ≡ length before
  pub written : Written 0 0 (i * record_size slot) (bit (total ◌++◌ [] blocks (nth_record slot number asked start))) before after
  pub state_is : state ≡ state_at slot asked start i
  pub short_is : short ≡ short_among slot asked start i

pub recorded_none : (slot : Slot) (number asked start blocks : ℕ) (out : List ℕ) → Recorded slot number asked start blocks out out start 0 0
unfolding state_before short_among total
recorded_none slot number asked start blocks out = record {
  within = omega arith;
  long = refl;
  written = written_to (written_none 0 0 _ out) (0 * record_size slot) (omega arith);
  state_is = refl;
  short_is = refl;
}

module _ {slot : Slot} {number asked start blocks : ℕ} {before after : List ℕ} {state short i : ℕ}
    (r : Recorded slot number asked start blocks before after state short i) where
  few_short : short ≤ i
  unfolding short_among
  few_short = omega (arith, r.short_is, sum_most i 1 (short_at slot asked start) (λ j l. omega (arith, indicator-lt (left_at slot asked start j))))

  -- one more left short is still counted
  pub short_fits : i < blocks → (b : Bool) → short + indicator b ≤ blocks
  short_fits l b = omega (arith, few_short, indicator-lt b)

  -- what record i is
  record_is : {zs : List ℕ} {p : Places} → RecordDrawn slot number asked state i zs p → zs ≡ nth_record slot number asked start i
  unfolding nth_record
  record_is d = d.bytes ∙ rw r.state_is

  module _ (size : length before ≡ blocks * record_size slot) where
    room : i < blocks → i * record_size slot + record_size slot ≤ length before
    room l = omega (arith, size, mul-le-mul_right (record_size slot) l, suc-mul i (record_size slot))

    -- record i stands within the output
    pub record_room : {s : ℕ} → s ≡ record_size slot → i < blocks → i * s + s ≤ length before
    record_room e l = rw e (room l)

    pub recorded_more : {s : ℕ} {zs : List ℕ} {p : Places} {short' : ℕ} → s ≡ record_size slot → i < blocks → RecordDrawn slot number asked state i zs p
        → short' ≡ short + indicator (ltb p.wrong asked)
        → Recorded slot number asked start blocks before (put_mid (i * s) (i * s + s - i * s) after zs) p.state short' (i + 1)
    unfolding state_before short_among
    recorded_more {s} {zs} {p} {short'} es l d e =
        let f : ℕ → List ℕ = nth_record slot number asked start in
        let is : zs ≡ f i = record_is d in
        let long : length zs ≡ s = ap length is ∙ record_size_lem slot number asked start i ∙ sym es in
        let left : ltb p.wrong asked ≡ left_at slot asked start i = d.short ∙ rw r.state_is in
        let at : i * s ≡ i * record_size slot = ap (λ (k : ℕ). i * k) es in
        let w = written_part r.written (i * s) (i * s + s - i * s) zs (omega arith) (omega (arith, record_room es l)) (omega arith)
        (λ q h. ap (λ (z : List ℕ). bit z q) is ∙ sym (joined_at (record_size slot) f (record_size_lem slot number asked start) blocks i q l (omega arith))) in
        record {
          within = omega arith;
          long = w.long;
          written = written_to w ((i + 1) * record_size slot) (omega (arith, suc-mul i (record_size slot), ap (λ (k : ℕ). k * record_size slot) (add-one i)));
          state_is = d.state ∙ rw (r.state_is, add-one i);
          short_is = e ∙ ap₂ ◌+◌ r.short_is (ap indicator left) ∙ sym (sum_more i (short_at slot asked start));
        }

    pub recorded_all : blocks ≤ i → RecordsDrawn slot number asked start blocks after (record { answer = (Ok tt); state = state; short = short })
    recorded_all h =
        let e : i ≡ blocks = omega (arith, r.within) in
        let all : ℕ = blocks * record_size slot in
        record {
          answer = refl;
          bytes = written_all (written_to r.written all (ap (λ (k : ℕ). k * record_size slot) e)) size
              ∙ tabulate-get_or all _ 0 (joined_length (record_size slot) (nth_record slot number asked start) (record_size_lem slot number asked start) blocks);
          state = r.state_is ∙ ap (state_at slot asked start) e;
          short = r.short_is ∙ ap (short_among slot asked start) e;
        }

-- the part for a record, as the code takes it
pub record_part : (out : List ℕ) (at s : ℕ) {n : ℕ} → at + s ≤ length out → s ≡ n → length (take (at + s - at) (drop at out)) ≡ n
record_part out at s h e = rw (part_length 0 at (at + s - at) out (omega arith)) (omega arith)

-- ---- the length of a capture

module _ (n blocks size : ℕ) where
  pub no_header : n < 5 → false ≡ eqb n (5 + blocks * size)
  no_header h = sym (ne_eqb n (5 + blocks * size) (λ e. omega arith))

  module _ (h : 5 ≤ n) where
    pub cut_record : ((n - 5) % size ≡ 0 → ⊥) → false ≡ eqb n (5 + blocks * size)
    cut_record c = sym (ne_eqb n (5 + blocks * size) (λ (e : n ≡ 5 + blocks * size). c (ap (λ (k : ℕ). k % size) {x = n - 5} {y = blocks * size} (omega arith) ∙ mul-mod_left blocks size)))

    pub whole_records : 0 < size → (n - 5) % size ≡ 0 → eqb ((n - 5) / size) blocks ≡ eqb n (5 + blocks * size)
    whole_records some c =
        let q : ℕ = (n - 5) / size in
        let e : q * size ≡ n - 5 = omega (arith, div-add-mod' (n - 5) size) in
        same_test _ _
        (λ t. eq-eqb n (5 + blocks * size) (omega (arith, ap (λ (k : ℕ). k * size) (eqb-true q blocks t))))
        (λ t. eq-eqb q blocks (ap (λ (k : ℕ). k / size) {x = n - 5} {y = blocks * size} (omega (arith, eqb-true n (5 + blocks * size) t)) ∙ mul-div_cancel blocks some))

-- ---- the call

module _ (slot : Slot) (number start asked blocks : ℕ) {out : List ℕ} where
  pub capture_refused : {why : Refusal} → Checked (capture_checks slot start asked blocks (length out)) [] (Err why)
      → Writes slot number start asked blocks out out (record { answer = Err why; state = start; short = 0 })
  capture_refused {why} c =
      let n : ℕ = first_refusal (capture_checks slot start asked blocks (length out)) in
      let some : eqb n 0 ≡ false = ne_eqb n 0 (λ (e : n ≡ 0). omega (arith, c.number, number_pos why)) in
      record { number = c.number; place = c.place ∙ nowhere n; output = rw some; state = rw some; short = rw some }

  -- the header, then the records
  pub capture_done : {out' rest : List ℕ} {a : Captured} → 0 ≡ first_refusal (capture_checks slot start asked blocks (length out))
      → RecordsDrawn slot number asked start blocks rest a → out' ≡ header ++ rest → Writes slot number start asked blocks out out' a
  unfolding capture_of
  capture_done e d is =
      let none : eqb (first_refusal (capture_checks slot start asked blocks (length out))) 0 ≡ true = eq-eqb _ 0 (sym e) in
      record {
        number = ap answer_number d.answer ∙ e;
        place = ap answer_place d.answer;
        output = rw none (is ∙ ap (λ (l : List ℕ). header ++ l) d.bytes);
        state = rw none d.state;
        short = rw none d.short;
      }

-- what a table has at a number is within the limits, and its number is below 32
pub slot_fit : (t : Table) (number : ℕ) {slot : Slot} → slot ≡ slot_of t number → Proper slot × (is_there slot ≡ true → number < 256)
slot_fit t number e = rw e (slot_proper t number, go (known t number) refl)
  where
    go : (b : Bool) → known t number ≡ b → is_there (slot_of t number) ≡ true → number < 256
    go true k h = omega (arith, (is_known t number k).within)
    go false k h = absurd (false≢true (ap (λ (s : Slot). is_there s) (sym (slot_unknown t number k)) ∙ h))

-- Captures of a load: document 01, "Captures and the meter listing", written. Assumes nothing.
use Rattle.std.specs.Prelude.{ℕ, ◌+◌, ◌*◌, ◌/◌, ◌%◌, ◌^◌, ◌≡◌, cond, List, [], ◌∷◌, ◌++◌, eqb, length}
use Rattle.words.specs.Sum.{sum_below, tabulate, total}
use Rattle.words.specs.Word.{bit, indicator}
use Rattle.refusals.specs.Refusals.{Check, answer_number, answer_place, check, first_refusal}
use Rattle.tables.specs.Tables.{Slot, held}
use Rattle.header.specs.Header.{header}
use Rattle.capture.specs.Capture.{record_size}
use Rattle.load.specs.declared.Captured.{Captured}
use Rattle.load.specs.Load.{block_from, left_short, start_checks, state_before}

-- eight bits in a byte, the first on top
abbrev pub octet : (ℕ → ℕ) → ℕ
octet f = total (λ x b. x * 2 + b) 0 8 f

-- "n bits packed, place 0 in the top bit of the first byte"
unfoldable pub packed : List ℕ → List ℕ
packed word = tabulate (length word / 8) (λ k. octet (λ i. bit word (8 * k + i)))

-- "serial (32 bits, senior byte first), profile (one byte), n bits packed"
unfoldable pub record_bytes : ℕ → ℕ → List ℕ → List ℕ
record_bytes serial profile word =
    (serial / 2 ^ 24 ∷ serial / 2 ^ 16 % 256 ∷ serial / 2 ^ 8 % 256 ∷ serial % 256 ∷ profile ∷ []) ++ packed word

-- the load from a start, by what a table has at its profile's number, with so many wrong places asked in a block
module _ (slot : Slot) (asked start : ℕ) where
  -- the state that block i is drawn from
  abbrev pub state_at : ℕ → ℕ
  state_at i = state_before (held slot).m (held slot).r asked start i

  abbrev pub block_at : ℕ → List ℕ
  block_at i = block_from (held slot).m (held slot).r asked (state_at i)

  -- how many of the first blocks are left short
  unfoldable pub short_among : ℕ → ℕ
  short_among blocks = sum_below blocks (λ i. indicator (left_short (held slot).m (held slot).r asked (state_at i)))

module _ (slot : Slot) (profile asked start : ℕ) where
  -- "A block's serial is its number from 0, kept to 32 bits."
  unfoldable pub nth_record : ℕ → List ℕ
  nth_record i = record_bytes (i % 2 ^ 32) profile (block_at slot asked start i)

  -- the capture of so many blocks: the header, then "records follow to the end"
  unfoldable pub capture_of : ℕ → List ℕ
  capture_of blocks = header ++ total ◌++◌ [] blocks nth_record

-- ---- a call for a capture

abbrev pub capture_size : Slot → ℕ → ℕ
capture_size slot blocks = 5 + blocks * record_size slot

-- 6 where the output is not as long as the capture
abbrev pub capture_checks : Slot → ℕ → ℕ → ℕ → ℕ → List Check
capture_checks slot start asked blocks room = start_checks slot start asked ++ (check 6 (eqb room (capture_size slot blocks)) ∷ [])

-- the output before and after, the answer, the state after the last block and the number of blocks left short
module _ (slot : Slot) (profile start asked blocks : ℕ) (out out' : List ℕ) (a : Captured) where
  abbrev refusal : ℕ
  refusal = first_refusal (capture_checks slot start asked blocks (length out))

  pub record Writes : Type 0 where
    pub number : answer_number a.answer ≡ refusal
    pub place : answer_place a.answer ≡ 0
    pub output : out' ≡ cond (eqb refusal 0) (capture_of slot profile asked start blocks) out
    pub state : a.state ≡ cond (eqb refusal 0) (state_at slot asked start blocks) start
    pub short : a.short ≡ cond (eqb refusal 0) (short_among slot asked start blocks) 0

-- Loads worked out, as one table: each row is a question with its value. Assumes nothing.
use Rattle.std.specs.Prelude.{ℕ, ◌≡◌, refl, Bool, true, false, List, [], ◌∷◌, ◌++◌, map}
use Rattle.std.specs.Int.Count.{ones, ones_in}
use Rattle.words.specs.Sum.{tabulate, total}
use Rattle.words.specs.Word.{add_words}
use Rattle.code.specs.Code.{codeword, dimension, monomial, rank, spread}
use Rattle.refusals.specs.Refusals.{first_refusal}
use Rattle.tables.specs.Tables.{in_limits, known, ours, slot_of}
use Rattle.header.specs.Header.{header}
use Rattle.generator.specs.Generator.{draw, draw_times, draw_until, message_from, places_from, step, steps, wrong_in}
use Rattle.load.specs.Load.{block_checks, block_from, left_short, places_after, sent_from, state_after, state_before}
use Rattle.load.specs.Records.{capture_of, packed, nth_record, record_bytes}

-- a question, and last in it the value
pub data Row : Type 0 where
  -- a number of steps, the start: the state
  leads : ℕ → ℕ → ℕ → Row
  -- exponent, order, wrong places asked, the state: the block's bytes, the state after it, whether it is left short
  draws : ℕ → ℕ → ℕ → ℕ → List ℕ → ℕ → Bool → Row
  -- profile, wrong places asked, the start, the number of blocks: the capture
  writes : ℕ → ℕ → ℕ → ℕ → List ℕ → Row
  -- profile, the state, wrong places asked, the buffer's length: the refusal, 0 where there is none
  refuses : ℕ → ℕ → ℕ → ℕ → ℕ → Row

-- the same question with the value that the definitions give
abbrev pub valued : Row → Row
valued (leads k x y) = leads k x (steps k x)
valued (draws m r asked x block y short) = draws m r asked x (packed (block_from m r asked x)) (state_after m r asked x) (left_short m r asked x)
valued (writes profile asked start blocks capture) = writes profile asked start blocks (capture_of (slot_of ours profile) profile asked start blocks)
valued (refuses profile x asked room number) = refuses profile x asked room (first_refusal (block_checks (slot_of ours profile) x asked room))

-- the first states and blocks of the load that the program writes; of eight places seven are wrong exactly at the eighth draw, so that a block
-- with eight asked is left short; the refusals in their order
unfoldable pub table : List Row
table =
    leads 1 1 270369
    ∷ leads 2 1 67634689
    ∷ leads 3 1 2647435461
    ∷ leads 4 1 307599695
    ∷ draws 6 2 3 1 (0x3c ∷ 0x01 ∷ 0x69 ∷ 0xaa ∷ 0x66 ∷ 0xb5 ∷ 0xec ∷ 0xf0 ∷ []) 44632818 false
    ∷ draws 6 2 3 44632818 (0x5d ∷ 0x0c ∷ 0xae ∷ 0xf3 ∷ 0x95 ∷ 0x3b ∷ 0x95 ∷ 0x3f ∷ []) 2670584965 false
    ∷ writes 1 3 1 2
    (header
    ++ (0 ∷ 0 ∷ 0 ∷ 0 ∷ 1 ∷ 0x3c ∷ 0x01 ∷ 0x69 ∷ 0xaa ∷ 0x66 ∷ 0xb5 ∷ 0xec ∷ 0xf0 ∷ [])
    ++ (0 ∷ 0 ∷ 0 ∷ 1 ∷ 1 ∷ 0x5d ∷ 0x0c ∷ 0xae ∷ 0xf3 ∷ 0x95 ∷ 0x3b ∷ 0x95 ∷ 0x3f ∷ []))
    ∷ draws 3 1 7 1 (0xce ∷ []) 1495045943 false
    ∷ draws 3 1 8 1 (0xce ∷ []) 1495045943 true
    ∷ refuses 5 0 65 0 14
    ∷ refuses 1 0 65 0 21
    ∷ refuses 1 1 65 0 22
    ∷ refuses 1 1 64 0 6
    ∷ refuses 1 1 64 64 0
    ∷ []

pub worked_load : map valued table ≡ table
unfolding table steps step packed tabulate total block_from sent_from places_after state_after state_before left_short codeword spread rank monomial dimension ones ones_in add_words message_from places_from draw_times draw_until draw wrong_in capture_of nth_record record_bytes slot_of known in_limits first_refusal
worked_load = refl

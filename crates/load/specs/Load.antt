-- The blocks of a load: document 02, request 9. Assumes nothing.
use Rattle.std.specs.Prelude.{ℕ, zero, suc, ◌^◌, ◌≡◌, Bool, ◌&&◌, cond, not, List, [], ◌∷◌, ◌++◌, eqb, leb, ltb, length}
use Rattle.words.specs.Word.{add_words}
use Rattle.code.specs.Code.{codeword, dimension}
use Rattle.refusals.specs.Refusals.{Check, answer_number, answer_place, check, first_refusal}
use Rattle.tables.specs.Tables.{Slot, is_there, held}
use Rattle.capture.specs.Capture.{word_size}
use Rattle.generator.specs.Generator.{Drawn, message_from, places_from, steps, wrong_in}
use Rattle.load.specs.declared.Next.{Next}

-- "draws a message": its codeword is sent
unfoldable pub sent_from : ℕ → ℕ → ℕ → List ℕ
sent_from m r x = codeword m r (message_from (dimension m r) x)

-- the block of exponent m and order r that is drawn from the state x, with so many wrong places asked
module _ (m r asked x : ℕ) where
  -- "then draws places"
  unfoldable pub places_after : Drawn
  places_after = places_from (2 ^ m) asked (steps (dimension m r) x)

  -- the codeword with the wrong places changed
  unfoldable pub block_from : List ℕ
  block_from = add_words (sent_from m r x) places_after.noise

  -- the state after it
  unfoldable pub state_after : ℕ
  state_after = places_after.state

  -- "a block left short by then is sent with fewer wrong places, and the generator's answer, not the capture, marks it so"
  unfoldable pub left_short : Bool
  left_short = ltb (wrong_in places_after.noise) asked

-- "block after block": the state before block i of a load
unfoldable pub state_before : ℕ → ℕ → ℕ → ℕ → ℕ → ℕ
state_before m r asked start zero = start
state_before m r asked start (suc i) = state_after m r asked (state_before m r asked start i)

-- ---- a call for a block, by what a table has at its number

-- "21, a start of 0; 22, more wrong places asked than n, tested after 21. The profile's 14 precedes both"
abbrev pub start_checks : Slot → ℕ → ℕ → List Check
start_checks slot x asked = check 14 (is_there slot) ∷ check 21 (not (eqb x 0)) ∷ check 22 (leb asked (word_size slot)) ∷ []

-- "6 for the block's buffer follows them"
abbrev pub block_checks : Slot → ℕ → ℕ → ℕ → List Check
block_checks slot x asked room = start_checks slot x asked ++ (check 6 (eqb room (word_size slot)) ∷ [])

-- what a call leaves, with the block's buffer before it: "A refused call makes no step."
module _ (slot : Slot) (x asked : ℕ) (word : List ℕ) where
  abbrev pub block_refusal : ℕ
  block_refusal = first_refusal (block_checks slot x asked (length word))

  abbrev pub block_of : List ℕ
  block_of = cond (eqb block_refusal 0) (block_from (held slot).m (held slot).r asked x) word

  abbrev pub state_of : ℕ
  state_of = cond (eqb block_refusal 0) (state_after (held slot).m (held slot).r asked x) x

  abbrev pub short_of : Bool
  short_of = eqb block_refusal 0 && left_short (held slot).m (held slot).r asked x

  pub record Draws (after : List ℕ) (a : Next) : Type 0 where
    pub number : answer_number a.answer ≡ block_refusal
    pub place : answer_place a.answer ≡ 0
    pub block : after ≡ block_of
    pub state : a.state ≡ state_of
    pub short : a.short ≡ short_of

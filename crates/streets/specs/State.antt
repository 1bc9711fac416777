-- A street between two steps, and what a call for a step answers and leaves, for any street given: document 02, request 10. Assumes nothing.
use Rattle.std.specs.Prelude.{ℕ, zero, suc, ◌*◌, ◌≡◌, Bool, cond, not, ◌&&◌, List, [], ◌∷◌, ◌++◌, eqb, leb, ltb, length, replicate, set, ℤ, Option, Some, None, Result, Ok, Err}
use Rattle.words.specs.Sum.{first_where}
use Rattle.words.specs.Word.{bit, indicator}
use Rattle.refusals.specs.Refusals.{Check, check, first_refusal, number_of}
use Rattle.refusals.specs.declared.Refusal.{Refusal}
use Rattle.tables.specs.Tables.{Slot, held}
use Rattle.capture.specs.Capture.{word_size}
use Rattle.rule.specs.Decoding.{zeros}
use Rattle.load.specs.Load.{start_checks, state_after}
use Rattle.streets.specs.Street.{Answered, Meter, Nobody, Sender, Step, answer_to, block_of, is_refused, other, refusal, right}
use Rattle.streets.specs.declared.Fate.{Fate}
use Rattle.streets.specs.declared.Fate.TheVariants as fate
use Rattle.streets.specs.declared.Plan.{Plan}
use Rattle.streets.specs.declared.Sent.{Sent}
use Rattle.streets.specs.declared.Stepped.{Stepped}
use Rattle.streets.specs.declared.Street.{Street}

-- before the first step every meter is to send
abbrev pub begins : ℕ → Street
begins start = record { state = start; turn = 0; at = 0; due = replicate 256 1 }

-- ---- who sends

-- meter i stands at `from` or after it, and d in its place says that it is to send
unfoldable pub waits_from : ℕ → ℕ → ℕ → Bool
waits_from d from i = leb from i && not (eqb d 0)

-- the first such meter, the number of meters where there is none
unfoldable pub next_due : List ℕ → ℕ → ℕ → ℕ
next_due due meters from = first_where meters (λ i. waits_from (bit due i) from i)

-- a meter that has not had this turn, else one that was refused in it, in the next
unfoldable pub sender_of : Plan → Street → Sender
sender_of plan s =
    let i : ℕ = next_due s.due plan.meters s.at in
    let j : ℕ = next_due s.due plan.meters 0 in
    cond (ltb i plan.meters) (Meter i s.turn) (cond (ltb s.turn plan.retries && ltb j plan.meters) (Meter j (suc s.turn)) Nobody)

-- ---- the checks

-- "23, meters outside 1 to 256; then 24, a retry limit above 15; then those of request 9"
abbrev pub plan_checks : Plan → List Check
plan_checks plan = check 23 (leb 1 plan.meters) ∷ check 23 (leb plan.meters 256) ∷ check 24 (leb plan.retries 15) ∷ []

abbrev pub setting_checks : Slot → Plan → ℕ → List Check
setting_checks slot plan x = plan_checks plan ++ start_checks slot x plan.wrong

-- request 9's "6 for the block's buffer follows them"; "then 7"
abbrev pub room_checks : Slot → ℕ → ℕ → List Check
room_checks slot room area = check 6 (eqb room (word_size slot)) ∷ check 7 (leb (8 * word_size slot) area) ∷ []

-- ---- what a step shows

-- a meter sent, none is left, or the step is refused
pub data Showing : Type 0 where
  step : Step → Showing
  shows_none : Showing
  refused : ℕ → Showing

module _ (slot : Slot) (plan : Plan) (s : Street) where
  -- with the number of the buffers' refusal; "With no meter left to send, a step answers that none is left": it asks for no buffer
  abbrev pub shows_by : ℕ → Sender → Showing
  shows_by number None = shows_none
  shows_by number (Some v) = cond (eqb number 0) (step (record { meter = v.meter; try = v.turn; answer = answer_to (held slot) plan.wrong s.state })) (refused number)

  unfoldable pub shows : ℕ → ℕ → Showing
  shows room area =
      let number : ℕ = first_refusal (setting_checks slot plan s.state) in
      cond (eqb number 0) (shows_by (first_refusal (room_checks slot room area)) (sender_of plan s)) (refused number)

  -- ---- what it leaves

  abbrev pub street_by : Showing → Street
  street_by (step x) = record {
    state = state_after (held slot).m (held slot).r plan.wrong s.state;
    turn = x.try;
    at = suc x.meter;
    due = set s.due x.meter (indicator (is_refused x.answer));
  }
  street_by shows_none = s
  street_by (refused number) = s

  -- "The block's buffer keeps the last block sent; where none is sent, it and the area stay."
  abbrev pub block_by : List ℕ → Showing → List ℕ
  block_by block (step x) = block_of (held slot) plan.wrong s.state
  block_by block shows_none = block
  block_by block (refused number) = block

  abbrev pub area_by : List ℤ → Showing → List ℤ
  area_by area (step x) = zeros area
  area_by area shows_none = area
  area_by area (refused number) = area

-- ---- a call

-- the values of each case of the code's answers
abbrev pub answered : Fate → Answered
answered fate.Right = right
answered fate.Other = other
answered (fate.Refused why) = refusal (number_of why)

abbrev pub Shown : Type 0
Shown = Result (Option Sent) Refusal

abbrev pub shown_as : Shown → Showing
shown_as (Ok (Some sent)) = step (record { meter = sent.meter; try = sent.turn; answer = answered sent.fate })
shown_as (Ok None) = shows_none
shown_as (Err why) = refused (number_of why)

module _ (slot : Slot) (plan : Plan) (s : Street) where
  -- a step that shows x: the block's buffer and the area before and after it
  pub record Leaves (x : Showing) (block block' : List ℕ) (area area' : List ℤ) (a : Stepped) : Type 0 where
    pub shown : shown_as a.shown ≡ x
    pub street : a.street ≡ street_by slot plan s x
    pub block_is : block' ≡ block_by slot plan s block x
    pub area_is : area' ≡ area_by slot plan s area x

  abbrev pub Steps : List ℕ → List ℕ → List ℤ → List ℤ → Stepped → Type 0
  Steps block block' area area' a = Leaves (shows slot plan s (length block) (length area)) block block' area area' a

-- ---- a street from its start

module _ (slot : Slot) (plan : Plan) (start : ℕ) where
  -- the street after n steps in buffers of the right sizes
  unfoldable pub street_after : ℕ → Street
  street_after zero = begins start
  street_after (suc n) = let s : Street = street_after n in street_by slot plan s (shows_by slot plan s 0 (sender_of plan s))

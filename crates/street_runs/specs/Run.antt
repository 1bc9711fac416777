-- Runs of a street from its start: so many steps at most, their log and counts. Assumes nothing.
use Rattle.std.specs.Prelude.{ℕ, ◌+◌, ◌*◌, ◌≡◌, Bool, cond, ◌&&◌, List, [], ◌∷◌, ◌++◌, eqb, ltb, length, set, ℤ}
use Rattle.refusals.specs.Refusals.{Check, answer_number, answer_place, first_refusal}
use Rattle.tables.specs.Tables.{Slot, held}
use Rattle.rule.specs.Decoding.{zeros}
use Rattle.streets.specs.Street.{Answered, Step, block_of, load_at, other, other_in, refusal, refused_in, right, right_in, sent_in, steps_after}
use Rattle.streets.specs.State.{room_checks, setting_checks, street_after}
use Rattle.streets.specs.declared.Plan.{Plan}
use Rattle.street_runs.specs.declared.Ran.{Ran}

-- before any step
abbrev pub run_checks : Slot → Plan → ℕ → ℕ → ℕ → List Check
run_checks slot plan start room area = setting_checks slot plan start ++ room_checks slot room area

-- ---- the log: three numbers a step

-- an answer's number: 0 right, 100 another codeword, else the refusal's
abbrev pub answer_in : Answered → ℕ
answer_in right = 0
answer_in other = 100
answer_in (refusal e) = e

-- the step that sends block i writes the places 3 × i to 3 × i + 2, where they are there
unfoldable pub entered : ℕ → ℕ → ℕ → ℕ → List ℕ → List ℕ
entered i meter try answer log = cond (ltb (3 * i + 2) (length log)) (set (set (set log (3 * i) meter) (3 * i + 1) try) (3 * i + 2) answer) log

unfoldable pub logged : List Step → List ℕ → List ℕ
logged [] log = log
logged (s ∷ l) log = entered (length l) s.meter s.try (answer_in s.answer) (logged l log)

-- ---- what the steps leave

module _ (slot : Slot) (plan : Plan) (start : ℕ) where
  -- "The block's buffer keeps the last block sent; where none is sent, it and the area stay."
  abbrev pub block_after : List ℕ → List Step → List ℕ
  block_after block [] = block
  block_after block (s ∷ l) = block_of (held slot) plan.wrong (load_at slot plan start l)

abbrev pub area_after : List ℤ → List Step → List ℤ
area_after area [] = area
area_after area (s ∷ l) = zeros area

-- ---- a run of at most `budget` steps

-- with a block's buffer of `room` bytes and an area of `area` numbers
abbrev pub run_refusal : Slot → Plan → ℕ → ℕ → ℕ → ℕ
run_refusal slot plan start room area = first_refusal (run_checks slot plan start room area)

module _ (slot : Slot) (plan : Plan) (start budget room area : ℕ) where
  -- a refused run makes no step
  abbrev pub steps_made : List Step
  steps_made = cond (eqb (run_refusal slot plan start room area) 0) (steps_after slot plan start budget) []

  -- where fewer blocks were sent than steps asked, one answered that none is left
  abbrev pub is_none_left : Bool
  is_none_left = eqb (run_refusal slot plan start room area) 0 && ltb (length steps_made) budget

-- what the steps l of a run leave: the log, the block's buffer and the area before and after it
pub record Made (slot : Slot) (plan : Plan) (start : ℕ) (l : List Step) (log log' block block' : List ℕ) (area area' : List ℤ) (a : Ran) : Type 0 where
  pub sent : a.sent ≡ sent_in l
  pub right : a.right ≡ right_in l
  pub other : a.other ≡ other_in l
  pub refused : a.refused ≡ refused_in l
  pub street : a.street ≡ street_after slot plan start (length l)
  pub log_is : log' ≡ logged l log
  pub block_is : block' ≡ block_after slot plan start block l
  pub area_is : area' ≡ area_after area l

-- any call
pub record Runs (slot : Slot) (plan : Plan) (start budget : ℕ) (log log' block block' : List ℕ) (area area' : List ℤ) (a : Ran) : Type 0 where
  pub answer : answer_number a.answer ≡ run_refusal slot plan start (length block) (length area)
  pub place : answer_place a.answer ≡ 0
  pub steps : Made slot plan start (steps_made slot plan start budget (length block) (length area)) log log' block block' area area' a
  pub none_left : a.none_left ≡ is_none_left slot plan start budget (length block) (length area)

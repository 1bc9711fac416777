-- Walks along a street, step by step until no meter is left: what the program keeps, and what it comes to. Assumes nothing.
use Rattle.std.specs.Prelude.{ℕ, ◌*◌, ◌≤◌, ◌≡◌, ◌≢◌, Bool, cond, IsErrAnd, Option, Some, None, Result, Ok, Err, List, [], eqb}
use Rattle.refusals.specs.Refusals.{first_refusal, number_of}
use Rattle.refusals.specs.declared.Refusal.{Refusal}
use Rattle.tables.specs.Tables.{Slot}
use Rattle.capture.specs.Capture.{word_size}
use Rattle.streets.specs.Street.{Step, steps_after}
use Rattle.streets.specs.State.{Showing, shows_none, refused, setting_checks, step, street_by}
use Rattle.streets.specs.declared.Plan.{Plan}
use Rattle.street_settings.specs.declared.Settings.{Settings}
use Rattle.street_report.specs.Report.{counts_of, plus_step, step_line}
use Rattle.walks.specs.declared.Stopped.{Stopped}
use Rattle.walks.specs.declared.Walk.{Walk}

-- the street's settings among the program's
abbrev pub plan_of : Settings → Plan
plan_of s = record { wrong = s.wrong; meters = s.meters; retries = s.retries }

-- after one step that shows x: the walk goes on, is at its end, or stops at a refusal
abbrev pub Onward : Slot → Plan → Walk → Result (Option Walk) Refusal → Showing → Type 0
Onward slot plan w r (step x) = r ≡ Ok (Some (record { street = street_by slot plan w.street (step x); counts = plus_step plan.retries w.counts x.try x.answer }))
Onward slot plan w r shows_none = r ≡ Ok None
Onward slot plan w r (refused number) = IsErrAnd r (λ why. number_of why ≡ number)

-- the line of what a step shows, where lines are asked for
abbrev pub line_of : Bool → Showing → List ℕ
line_of summary (step x) = cond summary [] (step_line x)
line_of summary shows_none = []
line_of summary (refused number) = []

-- ---- all of them

-- the block's buffer and the area have the sizes that a block of the profile asks
pub record Lent (slot : Slot) (room area : ℕ) : Type 0 where
  pub size : room ≡ word_size slot
  pub most : 8 * word_size slot ≤ area

module _ (slot : Slot) (plan : Plan) (start : ℕ) where
  -- 0, or the number of the first refusal of the settings
  abbrev pub refusal : ℕ
  refusal = first_refusal (setting_checks slot plan start)

  -- the steps that a street makes: 256 meters send at most 16 times
  abbrev pub steps_made : List Step
  steps_made = cond (eqb refusal 0) (steps_after slot plan start 4096) []

  -- a walk from the start ends with no meter left, unless the settings are refused before the first step; its counts are those of the steps
  abbrev pub Walked : Result Walk Stopped → Type 0
  Walked (Ok w) = (refusal ≡ 0) × (w.counts ≡ counts_of plan.retries steps_made)
  Walked (Err e) = (refusal ≢ 0) × (number_of e.why ≡ refusal) × (e.walk.counts ≡ counts_of plan.retries steps_made)

  -- the same of the loop that makes it, whose turns suffice
  abbrev pub Ended : Result (Option Walk) Stopped → Type 0
  Ended (Ok (Some w)) = Walked (Ok w)
  Ended (Ok None) = ⊥
  Ended (Err e) = Walked (Err e)

-- What the functions of a run ask and promise. Assumes nothing.
use Rattle.std.specs.Prelude.{ℕ, suc, ◌+◌, ◌^◌, ◌≤◌, ◌<◌, ◌≡◌, true, false, List, ltb, ℤ, length, Ok}
use Rattle.words.specs.Word.{indicator}
use Rattle.refusals.specs.Refusals.{first_refusal, Answer}
use Rattle.tables.specs.Tables.{Slot}
use Rattle.tables.specs.Slots.{Proper}
use Rattle.streets.specs.Street.{Answered, is_other, is_refused, is_right, steps_after}
use Rattle.streets.specs.State.{Showing, area_by, block_by, shows_none, refused, room_checks, sender_of, setting_checks, shows_by, step, street_by}
use Rattle.street_runs.specs.Run.{Made, answer_in, entered, run_checks}
use Rattle.streets.specs.declared.Plan.{Plan}
use Rattle.street_runs.specs.declared.Ran.{Ran}
use Rattle.streets.specs.declared.Street.{Street}

-- ---- counts

abbrev pub unsent : Answer → Street → Ran
unsent a s = record { answer = a; sent = 0; right = 0; other = 0; refused = 0; none_left = false; street = s }

-- another block can be counted
pub record Countable (ran : Ran) : Type 0 where
  pub room : suc ran.sent < 2 ^ 64
  pub sums : ran.sent ≡ ran.right + ran.other + ran.refused

abbrev pub more_by : Ran → ℕ → ℕ → ℕ → Street → Ran
more_by ran r o e s = record {
  answer = ran.answer;
  sent = ran.sent + 1;
  right = ran.right + r;
  other = ran.other + o;
  refused = ran.refused + e;
  none_left = false;
  street = s;
}

abbrev pub counted_by : Ran → Answered → Street → Ran
counted_by ran a s = more_by ran (indicator (is_right a)) (indicator (is_other a)) (indicator (is_refused a)) s

abbrev pub ended_by : Ran → Ran
ended_by ran = record {
  answer = ran.answer;
  sent = ran.sent;
  right = ran.right;
  other = ran.other;
  refused = ran.refused;
  none_left = true;
  street = ran.street;
}

-- ---- a step more

-- by what it shows, with the street after it
abbrev pub ran_by : Ran → Street → Showing → Ran
ran_by ran s (step x) = counted_by ran x.answer s
ran_by ran s shows_none = ended_by ran
ran_by ran s (refused number) = ran

abbrev pub log_by : ℕ → List ℕ → Showing → List ℕ
log_by i log (step x) = entered i x.meter x.try (answer_in x.answer) log
log_by i log shows_none = log
log_by i log (refused number) = log

module _ (slot : Slot) (plan : Plan) where
  -- of a run that passed its checks
  pub record Goable (ran : Ran) (block area : ℕ) : Type 0 where
    pub proper : Proper slot
    pub settings : first_refusal (setting_checks slot plan ran.street.state) ≡ 0
    pub buffers : first_refusal (room_checks slot block area) ≡ 0
    pub turns : ran.street.turn ≤ plan.retries
    pub counts : Countable ran

  abbrev pub showing : Street → Showing
  showing s = shows_by slot plan s 0 (sender_of plan s)

  pub record GoesOn (ran : Ran) (log log' block block' : List ℕ) (area area' : List ℤ) (a : Ran) : Type 0 where
    pub ran_is : a ≡ ran_by ran (street_by slot plan ran.street (showing ran.street)) (showing ran.street)
    pub log_is : log' ≡ log_by ran.sent log (showing ran.street)
    pub block_is : block' ≡ block_by slot plan ran.street block (showing ran.street)
    pub area_is : area' ≡ area_by slot plan ran.street area (showing ran.street)

  -- ---- the steps of a run

  pub record Runnable (start block area : ℕ) : Type 0 where
    pub proper : Proper slot
    pub checks : first_refusal (run_checks slot plan start block area) ≡ 0

  pub record RunsOn (start budget : ℕ) (log log' block block' : List ℕ) (area area' : List ℤ) (a : Ran) : Type 0 where
    pub done : a.answer ≡ (Ok tt)
    pub steps : Made slot plan start (steps_after slot plan start budget) log log' block block' area area' a
    pub none_left : a.none_left ≡ ltb (length (steps_after slot plan start budget)) budget

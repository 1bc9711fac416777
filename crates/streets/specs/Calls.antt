-- What the functions that a step is made of ask and promise. Assumes nothing.
use Rattle.std.specs.Prelude.{ℕ, ◌+◌, ◌<◌, ◌≡◌, true, [], set, Result, Some, Ok, Err}
use Rattle.words.specs.Word.{indicator}
use Rattle.refusals.specs.Refusals.{Checked}
use Rattle.refusals.specs.declared.Refusal.{Refusal}
use Rattle.profiles.specs.declared.Profile.{Profile}
use Rattle.load.specs.Steps.{tested}
use Rattle.streets.specs.declared.Plan.{Plan}
use Rattle.tables.specs.Tables.{Slot, is_there, some}
use Rattle.tables.specs.Slots.{Proper}
use Rattle.streets.specs.Street.{Answered, is_refused}
use Rattle.streets.specs.State.{answered, setting_checks}
use Rattle.streets.specs.declared.Stepped.{Stepped}
use Rattle.streets.specs.declared.Street.{Street}
use Rattle.streets.specs.declared.sends.Sending.{Sending}

-- a meter that can send
pub record Ready (slot : Slot) (i : ℕ) : Type 0 where
  pub proper : Proper slot
  pub known : is_there slot ≡ true
  pub within : i < 256

-- what the checks of the settings answer: 23, 24, 14, 21 or 22, or the entry
pub record Permits (slot : Slot) (plan : Plan) (x : ℕ) (a : Result Profile Refusal) : Type 0 where
  pub checked : Checked (setting_checks slot plan x) [] (tested a)
  pub given : (p : Profile) → a ≡ Ok p → slot ≡ some p

-- what a refused step answers
abbrev pub refusing : Refusal → Street → Stepped
refusing why s = record { shown = Err why; street = s }

-- 1 where the meter sends again
abbrev pub again_of : Answered → ℕ
again_of a = indicator (is_refused a)

-- what a step answers at which meter i sent at a try
abbrev pub sending : Street → ℕ → ℕ → Sending → Stepped
sending s i k r = record {
  shown = Ok (Some (record { meter = i; turn = k; fate = r.fate }));
  street = record { state = r.state; turn = k; at = i + 1; due = set s.due i (again_of (answered r.fate)) };
}

-- `value_readings::rounds::answers::hear_answer` meets its contract. Assumes nothing.
use Prim.Native.Nat.{ℕ}
use mathlib.Core.Path.{◌≡◌, refl, sym, subst}
use mathlib.Core.List.{List}
use lib.IntN.{ℤ}
use Rattle.std.specs.Prelude.{Option}
use Rattle.told.specs.Told.{Verdict, numbers_in}
use Rattle.steps.specs.Steps.{count_in, Voter}
use Rattle.steps.specs.declared.Count.{Count}
use Rattle.value_readings.specs.AnswerLaws.{none_heard}
use Rattle.value_readings.specs.Polls.{Heard}
use Rattle.value_readings.proofs.rounds.answers.hear_answer.Goals as goal

-- what is promised after an answer
abbrev Promised : (m b : ℕ) (xs ys : List ℤ) (count : Option Count) → Verdict → Type 0
Promised m b xs ys count answer = (count ≡ count_in (numbers_in answer)) × Heard m b answer xs ys

pub share_bits-requires : goal.share_bits-requires
share_bits-requires c =
    record {
      projects = c.requires.projects;
      sums = c.requires.sums;
      in_projection = subst (λ (v : Verdict). Voter c.args.m v c.args.area.now) c.in-Ok.is c.requires.voter;
    }

pub returns-in-Ok : goal.returns-in-Ok
returns-in-Ok c =
    let a = c.args in
    let given = subst (Promised a.m a.b a.area.now _ _) (sym c.in-Ok.is) (refl, c.share_bits.ensures _) in record { counted = given.0; heard = given.1 }

pub returns-in-Err : goal.returns-in-Err
returns-in-Err c =
    let a = c.args in
    let given = subst (Promised a.m a.b a.area.now _ _) (sym c.in-Err.is)
    (c.abstain.ensures 0, none_heard a.m a.b a.area.now _) in record { counted = given.0; heard = given.1 }

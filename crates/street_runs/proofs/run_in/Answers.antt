-- `street_runs::run_in` meets its contract. Assumes nothing.
use mathlib.Core.Path.{sym, ap, ◌∙◌, subst}
use mathlib.Core.List.{[]}
use Rattle.refusals.specs.Refusals.{Checked, answer_number}
use Rattle.street_runs.specs.Progress.{unsent}
use Rattle.street_runs.specs.RunLaws.{runs_done, runs_refused}
use Rattle.street_runs.proofs.run_in.Goals as goal

pub returns-in-Err : goal.returns-in-Err
returns-in-Err c =
    runs_refused _ _ _ _ _ (subst (Checked _ []) c.in-Err.is c.check_run-checked.ensures) (c.none_sent.ensures ∙ ap (unsent _) c.begin.ensures)

pub run_steps-requires : goal.run_steps-requires
run_steps-requires c =
    record { proper = c.requires; checks = sym c.check_run-checked.ensures.number ∙ ap answer_number c.in_default.is }

pub returns : goal.returns
returns c =
    runs_done _ _ _ _ (sym c.check_run-checked.ensures.number ∙ ap answer_number c.in_default.is) c.run_steps.ensures

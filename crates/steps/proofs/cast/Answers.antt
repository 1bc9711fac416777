-- `steps::cast` meets its contract. Assumes nothing.
use Rattle.std.proofs.Common.{sym, ap, ◌∙◌}
use Rattle.told.specs.Told.{Verdict, numbers_in}
use Rattle.steps.specs.Steps.{count_in}
use Rattle.steps.proofs.cast.Goals as goal

pub returns-in-Err-clause-counted : goal.returns-in-Err-clause-counted
returns-in-Err-clause-counted c = c.abstain.ensures c.in-Err.unread.rounds ∙ ap (λ (v : Verdict). count_in (numbers_in v)) (sym c.in-Err.is)

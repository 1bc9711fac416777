-- `street_runs::stepping::number` meets its contract. Assumes nothing.
use mathlib.Core.Path.{sym, ap, ◌∙◌}
use Rattle.streets.specs.State.{answered}
use Rattle.street_runs.specs.Run.{answer_in}
use Rattle.streets.specs.declared.Fate.{Fate}
use Rattle.street_runs.proofs.stepping.number.Goals as goal

pub returns-in-Refused : goal.returns-in-Refused
returns-in-Refused c =
    c.number.ensures ∙ ap (λ (f : Fate). answer_in (answered f)) (sym c.in-Refused.is)

-- `street_runs::stepping::counted` meets its contract. Assumes nothing.
use mathlib.Core.Path.{sym, ap, ◌∙◌}
use Rattle.streets.specs.State.{answered}
use Rattle.street_runs.specs.Progress.{counted_by}
use Rattle.streets.specs.declared.Fate.{Fate}
use Rattle.street_runs.proofs.stepping.counted.Goals as goal

pub returns-in-Right : goal.returns-in-Right
returns-in-Right c =
    let s = c.args in c.one_more.ensures ∙ ap (λ (f : Fate). counted_by s.ran (answered f) s.street) (sym c.in-Right.is)

pub returns-in-Other : goal.returns-in-Other
returns-in-Other c =
    let s = c.args in c.one_more-in-Other.ensures ∙ ap (λ (f : Fate). counted_by s.ran (answered f) s.street) (sym c.in-Other.is)

pub returns-in-Refused : goal.returns-in-Refused
returns-in-Refused c =
    let s = c.args in c.one_more-in-Refused.ensures ∙ ap (λ (f : Fate). counted_by s.ran (answered f) s.street) (sym c.in-Refused.is)

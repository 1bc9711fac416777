-- `confidence_decoder::value_checks::range` meets its contract. Assumes nothing.
use mathlib.Core.Path.{sym, ◌∙◌}
use Rattle.confidence_decoder.specs.CheckedLaws.{all_within, found_outside, nothing_outside}
use Rattle.confidence_decoder.proofs.value_checks.range.Goals as goal

pub returns-then-all_inside : goal.returns-then-all_inside
returns-then-all_inside c =
    all_within (sym c.all_inside.ensures ∙ c.if-all_inside.true)

pub returns-in-Some : goal.returns-in-Some
returns-in-Some c =
    found_outside (sym c.first_outside.ensures ∙ c.in-Some.is)

pub returns-in-None : goal.returns-in-None
returns-in-None c =
    nothing_outside (sym c.first_outside.ensures ∙ c.in-None.is)

-- `confidence_decoder::value_checks::all_inside` meets its contract: all is the test of the values passed. Assumes nothing.
use mathlib.Core.Path.{◌≡◌}
use Rattle.words.specs.Sum.{all_below}
use Rattle.confidence_decoder.specs.Checked.{is_inside}
use Rattle.confidence_decoder.proofs.value_checks.all_inside.Given as goal

abbrev pub invariant-loop-x : goal.invariant-loop-x
invariant-loop-x l =
    l.all ≡ all_below l.x-index (is_inside l.values)

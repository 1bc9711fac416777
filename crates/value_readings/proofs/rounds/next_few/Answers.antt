-- `value_readings::rounds::next_few` meets its contract. Assumes nothing.
use mathlib.Core.Path.{sym}
use Rattle.value_readings.specs.LeafLaws.{together_four, together_one}
use Rattle.value_readings.proofs.rounds.next_few.Goals as goal

pub returns-then-heard-lt3 : goal.returns-then-heard-lt3
returns-then-heard-lt3 c =
    sym (together_one _ c.if-heard-lt3.true)

pub returns-else-heard-lt3 : goal.returns-else-heard-lt3
returns-else-heard-lt3 c =
    sym (together_four _ c.if-heard-lt3.false)

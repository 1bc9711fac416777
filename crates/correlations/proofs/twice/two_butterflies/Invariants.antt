-- `correlations::twice::two_butterflies` meets its contract: a turn does one column, all of it read before the first is set. Assumes nothing.
use Rattle.hadamard.specs.Transform.{sums}
use Rattle.correlations.specs.Columns.{ColumnsDone}
use Rattle.correlations.proofs.twice.two_butterflies.Given as goal

abbrev pub invariant-loop-i : goal.invariant-loop-i
invariant-loop-i l =
    ColumnsDone sums l.h l.i l.initial.a l.a

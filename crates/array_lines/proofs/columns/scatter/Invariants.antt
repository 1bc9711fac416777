-- `array_lines::columns::scatter` meets its contract. Assumes nothing.
use Rattle.array_lines.specs.Scattered.{Scattered}
use Rattle.array_lines.proofs.columns.scatter.Given as goal

abbrev pub invariant-loop-i : goal.invariant-loop-i
invariant-loop-i l =
    Scattered l.line l.j l.a l.i l.initial.grid l.grid

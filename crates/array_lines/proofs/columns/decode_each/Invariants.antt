-- `array_lines::columns::decode_each` meets its contract: the columns read stand as they are left, the others as they were. Assumes nothing.
use Rattle.array_lines.specs.ColumnsLaws.{ColumnsDone}
use Rattle.array_lines.proofs.columns.decode_each.Given as goal

abbrev pub invariant-loop-j : goal.invariant-loop-j
invariant-loop-j l =
    ColumnsDone l.mr l.code.m l.code.r l.code.rounds l.code.leaves l.initial.grid l.j l.grid l.sum l.codewords

-- `array_lines::rows::decode_rows` meets its contract: the rows read stand as they are left, the others as received. Assumes nothing.
use Rattle.array_lines.specs.RowLaws.{RowsDone}
use Rattle.array_lines.proofs.rows.decode_rows.Given as goal

abbrev pub invariant-loop-i : goal.invariant-loop-i
invariant-loop-i l =
    RowsDone l.mr l.mc l.r l.rounds l.leaves l.word l.i l.grid l.sum

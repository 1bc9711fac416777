-- `array_lines::rows::are_codewords` meets its contract. Assumes nothing.
use Rattle.std.proofs.Common.{◌≡◌, length}
use Rattle.array_lines.specs.RowLaws.{RowsTested}
use Rattle.array_lines.proofs.rows.are_codewords.Given as goal

abbrev pub invariant-loop-i : goal.invariant-loop-i
invariant-loop-i l =
    (length l.t ≡ 64) × RowsTested l.mr l.mc l.r l.grid l.i

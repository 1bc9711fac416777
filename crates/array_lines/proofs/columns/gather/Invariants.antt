-- `array_lines::columns::gather` meets its contract. Assumes nothing.
use Rattle.std.proofs.Common.{◌+◌, ◌*◌}
use Rattle.words.specs.Word.{bit}
use Rattle.words.specs.Written.{Written}
use Rattle.array_lines.proofs.columns.gather.Given as goal

abbrev pub invariant-loop-i : goal.invariant-loop-i
invariant-loop-i l =
    Written 0 0 l.i (λ p. bit l.grid (p * l.a + l.j)) l.initial.line l.line

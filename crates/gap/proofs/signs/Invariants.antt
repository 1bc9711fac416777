-- `gap::signs` meets its contract. Assumes nothing.
use Rattle.std.specs.Prelude.{pos}
use Rattle.words.specs.Word.{bit}
use Rattle.words.specs.Written.{Written}
use Rattle.hadamard.specs.Correlation.{sign}
use Rattle.gap.proofs.signs.Given as goal

abbrev pub invariant-loop-i : goal.invariant-loop-i
invariant-loop-i l = Written (pos 0) 0 l.i (λ p. sign (bit l.word p)) l.initial.part l.part

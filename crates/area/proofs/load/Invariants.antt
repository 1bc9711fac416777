-- `area::load` meets its contract. Assumes nothing.
use Rattle.std.proofs.Common.{pos}
use Rattle.words.specs.Word.{bit}
use Rattle.words.specs.Written.{Written}
use Rattle.area.proofs.load.Given as goal

abbrev pub invariant-loop-i : goal.invariant-loop-i
invariant-loop-i l =
    Written (pos 0) 0 l.i (λ p. pos (bit l.word p)) l.initial.area l.area

-- `messages::degrees` meets its contract: the loop writes the degrees in order. Assumes nothing.
use mathlib.Core.Path.{◌≡◌}
use lib.ListN.{length}
use Rattle.words.specs.Written.{Written}
use Rattle.code.specs.Code.{degree}
use Rattle.messages.proofs.degrees.Given as goal

abbrev pub invariant-loop-a : goal.invariant-loop-a
invariant-loop-a l =
    (length l.d ≡ length l.initial.d) × Written 0 0 l.a degree l.initial.d l.d

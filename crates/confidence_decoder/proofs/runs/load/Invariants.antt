-- `confidence_decoder::runs::load` meets its contract. Assumes nothing.
use lib.IntN.{pos}
use Rattle.words.specs.Written.{Written}
use Rattle.area.specs.Area.{at}
use Rattle.confidence_decoder.proofs.runs.load.Given as goal

abbrev pub invariant-loop-i : goal.invariant-loop-i
invariant-loop-i l =
    Written (pos 0) 0 l.i (at l.values) l.initial.area l.area

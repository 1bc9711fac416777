-- `halves::pair_sizes` meets its contract. Assumes nothing.
use Rattle.std.specs.Prelude.{pos}
use Rattle.words.specs.Written.{Written}
use Rattle.area.specs.Area.{at}
use Rattle.halves.specs.Halves.{size_of}
use Rattle.halves.proofs.pair_sizes.Given as goal

abbrev pub invariant-loop-i : goal.invariant-loop-i
invariant-loop-i l = Written (pos 0) l.h l.i (λ j. pos (size_of (at l.initial.part j))) l.initial.part l.part

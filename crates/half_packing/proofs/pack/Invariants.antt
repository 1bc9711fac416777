-- `half_packing::pack` meets its contract. Assumes nothing.
use Rattle.std.specs.Prelude.{◌+◌, pos}
use Rattle.words.specs.Written.{Written}
use Rattle.halves.specs.Halves.{signs_packed}
use Rattle.half_packing.proofs.pack.Given as goal

abbrev pub invariant-loop-i : goal.invariant-loop-i
invariant-loop-i l = Written (pos 0) (l.h + l.h) l.i (signs_packed l.h l.initial.area) l.initial.area l.area

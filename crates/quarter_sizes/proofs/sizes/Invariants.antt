-- `quarter_sizes::sizes` meets its contract: a turn of the loop writes the sizes of four quads. Assumes nothing.
use Rattle.std.specs.Prelude.{◌*◌}
use Rattle.quarter_sizes.specs.Sized.{Sized}
use Rattle.quarter_sizes.proofs.sizes.Given as goal

abbrev pub invariant-loop-k : goal.invariant-loop-k
invariant-loop-k l = Sized l.q (4 * l.k) l.initial.part l.part

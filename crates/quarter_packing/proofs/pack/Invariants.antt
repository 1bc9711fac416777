-- `quarter_packing::pack` meets its contract: a turn writes four quads. Assumes nothing.
use Rattle.std.specs.Prelude.{◌*◌, pos}
use Rattle.words.specs.Written.{Written}
use Rattle.quarter_packing.specs.QuarterSigns.{quad_signs}
use Rattle.quarter_packing.proofs.pack.Given as goal

abbrev pub invariant-loop-k : goal.invariant-loop-k
invariant-loop-k l = Written (pos 0) (4 * l.q) (4 * l.k) (quad_signs l.q l.initial.area) l.initial.area l.area

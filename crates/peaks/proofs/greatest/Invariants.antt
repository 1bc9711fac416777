-- `peaks::greatest` meets its contract. Assumes nothing.
use Rattle.std.proofs.Common.{of_z}
use Rattle.std.specs.Int.{w32}
use Rattle.area.specs.Area.{size_at}
use Rattle.peaks.specs.Searches.{Greatest}
use Rattle.peaks.proofs.greatest.Given as goal

abbrev pub invariant-loop-x : goal.invariant-loop-x
invariant-loop-x l = Greatest l.x-index (size_at l.sizes) (of_z w32 l.g)

-- `peaks::keys` meets its contract. Assumes nothing.
use Rattle.std.specs.Prelude.{◌≡◌, ◌+◌}
use Rattle.std.proofs.Common.{of_z}
use Rattle.std.specs.Int.{w32}
use Rattle.area.specs.Area.{size_at}
use Rattle.peaks.specs.Peaks.{keys_below}
use Rattle.peaks.proofs.keys.Given as goal

abbrev pub invariant-loop-x : goal.invariant-loop-x
invariant-loop-x l = (l.key ≡ 65536 + l.x-index) × (l.sum ≡ keys_below l.x-index (size_at l.sizes) (of_z w32 l.g))

-- `keys::greatest_key` meets its contract. Assumes nothing.
use Rattle.std.specs.Prelude.{◌≡◌, ◌≤◌, ◌*◌}
use Rattle.std.proofs.Common.{of_z}
use Rattle.std.specs.Int.{w32}
use Rattle.words.specs.Sum.{greatest_below}
use Rattle.keys.proofs.Greater.{key_at}
use Rattle.keys.proofs.greatest_key.Given as goal

abbrev pub invariant-loop-z : goal.invariant-loop-z
invariant-loop-z l = (l.k ≡ 4 * l.z-index) × (of_z w32 l.g ≤ 132095) × (of_z w32 l.g ≡ greatest_below l.z-index (key_at l.quads))

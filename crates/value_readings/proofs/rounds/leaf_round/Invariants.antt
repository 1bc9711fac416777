-- `value_readings::rounds::leaf_round` meets its contract: the loop has heard directions 1 to `used`. Assumes nothing.
use Prim.Native.Nat.{◌+◌, ◌-◌, ◌%◌, ◌≤◌}
use mathlib.Core.Path.{◌≡◌}
use Rattle.value_readings.specs.Polls.{Polled, leaf}
use Rattle.value_readings.proofs.rounds.leaf_round.Given as goal

abbrev pub invariant-loop-used : goal.invariant-loop-used
invariant-loop-used l =
    (l.used ≤ l.left) × (3 ≤ l.used → (l.used + 1) % 4 ≡ 0) × Polled l.m (leaf l.m) 0 l.used l.initial.area l.area l.abstained

abbrev pub decreases-loop-used : goal.decreases-loop-used
decreases-loop-used l =
    l.directions - l.used

-- `value_orders::signs::to_bits` meets its contract. Assumes nothing.
use Prim.Native.Nat.{◌-◌, ◌≤◌}
use lib.IntN.{pos}
use Rattle.words.specs.Written.{Written}
use Rattle.area.specs.Area.{at}
use Rattle.hadamard.specs.Correlation.{constant_of}
use Rattle.value_orders.proofs.signs.to_bits.Given as goal

abbrev pub invariant-loop-p : goal.invariant-loop-p
invariant-loop-p l =
    (l.p ≤ l.n) × Written (pos 0) 0 l.p (λ q. pos (constant_of (at l.initial.area q))) l.initial.area l.area

abbrev pub decreases-loop-p : goal.decreases-loop-p
decreases-loop-p l =
    l.n - l.p

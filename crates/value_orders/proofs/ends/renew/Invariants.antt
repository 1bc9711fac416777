-- `value_orders::ends::renew` meets its contract. Assumes nothing.
use Prim.Native.Nat.{◌+◌, ◌-◌, ◌≤◌}
use lib.IntN.{pos}
use Rattle.words.specs.Written.{Written}
use Rattle.area.specs.Area.{at}
use Rattle.confidences.specs.Confidences.{cut}
use Rattle.value_orders.proofs.ends.renew.Given as goal

abbrev pub invariant-loop-p : goal.invariant-loop-p
invariant-loop-p l =
    (l.p ≤ l.n) × Written (pos 0) 0 l.p (λ q. cut (at l.initial.area (l.n + q))) l.initial.area l.area

abbrev pub decreases-loop-p : goal.decreases-loop-p
decreases-loop-p l =
    l.n - l.p

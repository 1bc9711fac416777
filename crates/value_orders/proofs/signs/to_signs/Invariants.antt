-- `value_orders::signs::to_signs` meets its contract. Assumes nothing.
use lib.IntN.{pos, neg_ℤ}
use Rattle.words.specs.Written.{Written}
use Rattle.area.specs.Area.{at}
use Rattle.value_orders.proofs.signs.to_signs.Given as goal

abbrev pub invariant-loop-z : goal.invariant-loop-z
invariant-loop-z l =
    Written (pos 0) 0 l.z-index (λ q. neg_ℤ (at l.fn.part q)) l.fn.part l.z-items

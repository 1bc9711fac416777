-- `value_orders::sum_of` meets its contract. Assumes nothing.
use mir.Syntax.{w32}
use mir.Val.{of_z}
use Rattle.value_orders.specs.OrderLaws.{Summed}
use Rattle.value_orders.proofs.sum_of.Given as goal

abbrev pub invariant-loop-z : goal.invariant-loop-z
invariant-loop-z l =
    Summed l.n l.area l.z-index (of_z w32 l.s)

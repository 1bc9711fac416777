-- `value_orders::signs::write_signs` meets its contract: 16 places by their bits, and each turn of the loop writes as many again. Assumes nothing.
use Prim.Native.Nat.{◌-◌, ◌≤◌}
use Rattle.value_orders.specs.DoublingLaws.{Doubled}
use Rattle.value_orders.proofs.signs.write_signs.Given as goal

abbrev pub invariant-loop-h : goal.invariant-loop-h
invariant-loop-h l =
    (16 ≤ l.h) × Doubled l.u l.s l.n l.h l.part

abbrev pub decreases-loop-h : goal.decreases-loop-h
decreases-loop-h l =
    l.n - l.h

-- `value_orders::clean::none_zero` meets its contract. Assumes nothing.
use Rattle.std.proofs.Common.{◌≡◌}
use Rattle.words.specs.Sum.{all_below}
use Rattle.value_orders.specs.Leaves.{is_some}
use Rattle.value_orders.proofs.clean.none_zero.Given as goal

abbrev pub invariant-loop-i : goal.invariant-loop-i
invariant-loop-i l = l.some ≡ all_below l.i (is_some l.part)

-- `value_orders::clean::last_level` meets its contract: same is the test of the places passed. Assumes nothing.
use Rattle.std.proofs.Common.{◌≡◌}
use Rattle.words.specs.Sum.{all_below}
use Rattle.value_orders.specs.CleanLaws.{last_at}
use Rattle.value_orders.proofs.clean.last_level.Given as goal

abbrev pub invariant-loop-i : goal.invariant-loop-i
invariant-loop-i l = l.same ≡ all_below l.i (last_at l.part l.h)

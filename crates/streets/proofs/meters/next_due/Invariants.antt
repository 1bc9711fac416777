-- `streets::meters::next_due` meets its contract. Assumes nothing.
use Prim.Native.Nat.{ℕ, ◌-◌, ◌≤◌, ◌<◌}
use mathlib.Core.Path.{◌≡◌}
use mathlib.Core.Bool.{false}
use Rattle.words.specs.Word.{bit}
use Rattle.streets.specs.State.{waits_from}
use Rattle.streets.proofs.meters.next_due.Given as goal

abbrev pub invariant-loop-i : goal.invariant-loop-i
invariant-loop-i l =
    (l.i ≤ l.meters) × ((q : ℕ) → q < l.i → waits_from (bit l.due q) l.from q ≡ false)

abbrev pub decreases-loop-i : goal.decreases-loop-i
decreases-loop-i l =
    l.meters - l.i

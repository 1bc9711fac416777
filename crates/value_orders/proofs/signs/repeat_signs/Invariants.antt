-- `value_orders::signs::repeat_signs` meets its contract. Assumes nothing.
use Prim.Native.Nat.{◌-◌, ◌≤◌}
use mathlib.Core.Path.{◌≡◌}
use lib.IntN.{pos}
use lib.ListN.{length}
use Rattle.words.specs.Written.{Written}
use Rattle.area.specs.Area.{at}
use Rattle.value_orders.specs.Doubling.{turned}
use Rattle.value_orders.proofs.signs.repeat_signs.Given as goal

abbrev pub invariant-loop-i : goal.invariant-loop-i
invariant-loop-i l =
    (l.i ≤ l.h) × (length l.part ≡ length l.initial.part) × Written (pos 0) l.h l.i (λ j. turned l.t (at l.initial.part j)) l.initial.part l.part

abbrev pub decreases-loop-i : goal.decreases-loop-i
decreases-loop-i l =
    l.h - l.i

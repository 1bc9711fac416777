-- `blocks::load` meets its contract: a turn writes eight quads and transforms them. Assumes nothing.
use Prim.Native.Nat.{◌-◌, ◌^◌}
use mathlib.Core.Path.{◌≡◌}
use lib.ListN.{length}
use Rattle.blocks.specs.Blocks.{Loaded}
use Rattle.blocks.proofs.load.Given as goal

abbrev pub invariant-loop-i : goal.invariant-loop-i
invariant-loop-i l =
    (length l.area ≡ length l.initial.area) × Loaded l.k l.word l.i l.area

abbrev pub decreases-loop-i : goal.decreases-loop-i
decreases-loop-i l =
    2 ^ l.k - l.i

-- `table_files::load` meets its contract. Assumes nothing.
use Prim.Native.Nat.{◌-◌}
use Rattle.table_files.specs.Cases.{Loading}
use Rattle.table_files.proofs.load.Given as goal

abbrev pub invariant-loop-i : goal.invariant-loop-i
invariant-loop-i l =
    Loading l.file l.count l.entries l.i

abbrev pub decreases-loop-i : goal.decreases-loop-i
decreases-loop-i l =
    l.count - l.i

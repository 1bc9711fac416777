-- `value_steps::quads::project_four` meets its contract: a turn makes the entries q to q + 3 of the four runs. Assumes nothing.
use Prim.Native.Nat.{◌*◌}
use Rattle.value_steps.proofs.FourJoins.{Joining}
use Rattle.value_steps.proofs.quads.project_four.Given as goal

abbrev pub invariant-loop-j : goal.invariant-loop-j
invariant-loop-j l =
    Joining l.m l.k l.initial.area (4 * l.j) 0 l.area

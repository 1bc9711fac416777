-- `value_steps::quads::share_four` meets its contract: a turn adds at both members of four cosets of each direction. Assumes nothing.
use Prim.Native.Nat.{◌*◌}
use Rattle.value_steps.specs.Shares.{voices_of}
use Rattle.value_steps.proofs.FourShareTurns.{Sharing}
use Rattle.value_steps.proofs.quads.share_four.Given as goal

abbrev pub invariant-loop-j : goal.invariant-loop-j
invariant-loop-j g l =
    Sharing l.m l.k (voices_of l.speak) l.initial.area (4 * l.j) l.area

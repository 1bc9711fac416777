-- `value_steps::project` meets its contract: a turn writes the joint value of one coset's members. Assumes nothing.
use Prim.Native.Nat.{suc, ◌-◌, ◌^◌, ◌≤◌}
use lib.IntN.{pos}
use Rattle.words.specs.Written.{Written}
use Rattle.area.specs.Area.{at}
use Rattle.confidences.specs.Confidences.{project_values}
use Rattle.confidences.specs.Values.{front_of}
use Rattle.value_steps.proofs.project.Given as goal

abbrev pub invariant-loop-q : goal.invariant-loop-q
invariant-loop-q l =
    (l.q ≤ 2 ^ l.m) × Written (pos 0) l.c l.q (at (project_values l.m l.b (front_of (2 ^ suc l.m) l.initial.area))) l.initial.area l.area

abbrev pub decreases-loop-q : goal.decreases-loop-q
decreases-loop-q l =
    2 ^ l.m - l.q

-- `value_steps::share` meets its contract: a turn adds at both members of one coset. Assumes nothing.
use Prim.Native.Nat.{suc, ◌+◌, ◌-◌, ◌^◌, ◌≤◌}
use lib.IntN.{◌+ℤ◌}
use Rattle.area.specs.Area.{at}
use Rattle.cosets.specs.SetBelow.{SetBelow}
use Rattle.confidences.specs.Values.{heard_at}
use Rattle.value_steps.proofs.share.Given as goal

abbrev pub invariant-loop-q : goal.invariant-loop-q
invariant-loop-q l =
    (l.q ≤ 2 ^ l.m) × SetBelow l.m l.b (λ p. at l.initial.area (2 ^ suc l.m + p) +ℤ heard_at l.b l.c l.initial.area p) l.initial.area l.q l.area

abbrev pub decreases-loop-q : goal.decreases-loop-q
decreases-loop-q l =
    2 ^ l.m - l.q

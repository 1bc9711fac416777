-- `correlations::levels` meets its contract: each level transforms blocks of twice the size. Assumes nothing.
use Prim.Native.Nat.{ℕ, ◌-◌, ◌≤◌}
use mathlib.Core.List.{List}
use lib.IntN.{ℤ}
use Rattle.correlations.specs.Begun.{Blockwise}
use Rattle.correlations.proofs.levels.Given as goal

abbrev pub invariant-loop-h : goal.invariant-loop-h
invariant-loop-h l =
    (l.h ≤ l.end) × ((m : ℕ) (x : List ℤ) → Blockwise l.first m x l.initial.a → Blockwise l.h m x l.a)

abbrev pub decreases-loop-h : goal.decreases-loop-h
decreases-loop-h l =
    l.end - l.h

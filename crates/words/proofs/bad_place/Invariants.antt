-- `words::bad_place` meets its contract: no byte that was passed is above 1. Assumes nothing.
use Rattle.std.specs.Prelude.{ℕ, ◌≤◌, ◌<◌, length}
use Rattle.words.specs.Word.{bit}
use Rattle.words.proofs.bad_place.Given as goal

abbrev pub invariant-loop-p : goal.invariant-loop-p
invariant-loop-p l =
    (l.p ≤ length l.s) × ((q : ℕ) → q < l.p → bit l.s q < 2)

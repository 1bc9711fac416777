use Rattle.std.proofs.Common.{◌≡◌, ◌≤◌, pos}
use Rattle.words.specs.Sum.{all_below}
use Rattle.words.specs.Written.{Written}
use Rattle.flips.proofs.Flipped.{flipped_at, still}
use Rattle.flips.proofs.flip.Given as goal

abbrev pub invariant-loop-p : goal.invariant-loop-p
invariant-loop-p l =
    (l.p ≤ l.n) × Written (pos 0) 0 l.p (flipped_at l.n l.abstained l.initial.area) l.initial.area l.area × (l.settled ≡ all_below l.p (still l.n l.abstained l.initial.area))

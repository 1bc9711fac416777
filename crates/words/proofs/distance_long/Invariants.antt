-- `words::distance_long` meets its contract: the loop counts the places so far. Assumes nothing.
use Rattle.std.proofs.Common.{◌≡◌, ◌≤◌, length, drop}
use Rattle.words.specs.Sum.{sum_below}
use Rattle.words.specs.Word.{differs}
use Rattle.words.proofs.distance_long.Given as goal

abbrev pub invariant-loop-x : goal.invariant-loop-x
invariant-loop-x l =
    let i = length l.yielded in
    (l.x-iterator.a.rest.now ≡ drop i l.u) × (l.x-iterator.b.rest.now ≡ drop i l.v) × (l.d ≤ i) × (l.d ≡ sum_below i (differs l.u l.v))

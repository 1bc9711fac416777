-- `keys::count_of` meets its contract. Assumes nothing.
use Rattle.std.specs.Prelude.{◌≡◌}
use Rattle.words.specs.Sum.{sum_below}
use Rattle.keys.proofs.Hits.{hits_at}
use Rattle.keys.proofs.count_of.Given as goal

abbrev pub invariant-loop-z : goal.invariant-loop-z
invariant-loop-z l = l.c ≡ sum_below l.z-index (hits_at l.quads l.g)

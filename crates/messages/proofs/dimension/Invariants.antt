-- `messages::dimension` meets its contract: c is a binomial, and k the sum of those up to it. Assumes nothing.
use Prim.Native.Nat.{◌+◌, ◌*◌, ◌≤◌}
use mathlib.Core.Path.{◌≡◌}
use Rattle.words.specs.Sum.{sum_below}
use Rattle.code.specs.Dimension.{choose}
use Rattle.messages.proofs.dimension.Given as goal

abbrev pub invariant-loop-i : goal.invariant-loop-i
invariant-loop-i l =
    (l.k ≤ 1024 * (l.i + 1)) × (l.c ≡ choose l.m l.i) × (l.k ≡ sum_below (l.i + 1) (choose l.m))

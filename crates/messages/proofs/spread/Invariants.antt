-- `messages::spread` meets its contract: the loop writes out from its front, and j is the rank of the mask. Assumes nothing.
use mathlib.Core.Path.{◌≡◌}
use lib.ListN.{length}
use Rattle.words.specs.Written.{Written}
use Rattle.code.specs.Code.{rank, spread}
use Rattle.messages.proofs.spread.Given as goal

abbrev pub invariant-loop-a : goal.invariant-loop-a
invariant-loop-a l =
    (l.j ≡ rank l.r l.a) × (length l.out ≡ length l.initial.out) × Written 0 0 l.a (spread l.r l.message) l.initial.out l.out

-- `messages::gather` meets its contract: the masks below a fill out up to the rank of a. Assumes nothing.
use mathlib.Core.Path.{◌≡◌}
use lib.ListN.{length}
use Rattle.words.specs.Word.{bit}
use Rattle.words.specs.Written.{Written}
use Rattle.code.specs.Code.{rank, gather}
use Rattle.messages.proofs.gather.Given as goal

abbrev pub invariant-loop-a : goal.invariant-loop-a
invariant-loop-a l =
    (l.j ≡ rank l.r l.a) × (length l.out ≡ length l.initial.out) × Written 0 0 l.j (bit (gather l.r (bit l.t) (length l.t))) l.initial.out l.out

-- `words::copy` meets its contract: the loop writes dst from its front. Assumes nothing.
use Rattle.std.specs.Prelude.{◌≡◌, ◌≤◌, length}
use Rattle.words.specs.Word.{bit}
use Rattle.words.specs.Written.{Written}
use Rattle.words.proofs.copy.Given as goal

abbrev pub invariant-loop-i : goal.invariant-loop-i
invariant-loop-i l =
    (l.i ≤ length l.initial.dst) × (length l.dst ≡ length l.initial.dst) × Written 0 0 l.i (bit l.src) l.initial.dst l.dst

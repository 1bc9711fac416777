-- `messages::is_low` meets its contract: low is the test of the masks passed. Assumes nothing.
use mathlib.Core.Path.{◌≡◌}
use Rattle.words.specs.Word.{bit}
use Rattle.code.specs.Code.{low_test}
use Rattle.messages.proofs.is_low.Given as goal

abbrev pub invariant-loop-a : goal.invariant-loop-a
invariant-loop-a l =
    (l.most ≡ l.r) × (l.low ≡ low_test l.r (bit l.t) l.a)

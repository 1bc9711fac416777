-- `block_test::repeats` meets its contract: same is the test of the places passed. Assumes nothing.
use Rattle.std.specs.Prelude.{◌≡◌, ◌*◌}
use Rattle.words.specs.Word.{bit}
use Rattle.code.specs.FirstOrder.{repeats_below}
use Rattle.block_test.proofs.repeats.Given as goal

abbrev pub invariant-loop-k : goal.invariant-loop-k
invariant-loop-k l = l.same ≡ repeats_below (bit l.word) l.h (8 * l.k)

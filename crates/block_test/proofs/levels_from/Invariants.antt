-- `block_test::levels_from` meets its contract: the levels below k pass. Assumes nothing.
use Rattle.std.specs.Prelude.{◌≡◌, true}
use Rattle.words.specs.Word.{bit}
use Rattle.code.specs.FirstOrder.{levels_test}
use Rattle.block_test.proofs.levels_from.Given as goal

abbrev pub invariant-loop-k : goal.invariant-loop-k
invariant-loop-k l = levels_test l.k (bit l.word) ≡ true

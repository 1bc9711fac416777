-- `halving_test::all_equal` meets its contract: all is the test of the places passed. Assumes nothing.
use Rattle.std.proofs.Common.{◌≡◌}
use Rattle.words.specs.Word.{bit}
use Rattle.code.specs.TestSteps.{all_equal}
use Rattle.halving_test.proofs.all_equal.Given as goal

abbrev pub invariant-loop-x : goal.invariant-loop-x
invariant-loop-x l =
    (l.first ≡ bit l.s 0) × (l.all ≡ all_equal l.x-index l.s)

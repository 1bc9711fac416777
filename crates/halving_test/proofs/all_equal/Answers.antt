-- `halving_test::all_equal` meets its contract: all is the test of the places passed. Assumes nothing.
use Rattle.std.proofs.Common.{refl}
use Rattle.words.specs.SumLaws.{all_none, all_more}
use Rattle.halving_test.proofs.all_equal.Goals as goal

pub loop-x-init : goal.loop-x-init
loop-x-init c =
    (refl, all_none _)

pub loop-x-preserved : goal.loop-x-preserved
loop-x-preserved c =
    (refl, all_more _ _ _ c.loop-x.invariant.1)

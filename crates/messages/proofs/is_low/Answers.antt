-- `messages::is_low` meets its contract: low is the test of the masks passed. Assumes nothing.
use mathlib.Core.Path.{refl}
use Rattle.messages.specs.LowTest.{test_none, test_more}
use Rattle.messages.proofs.is_low.Goals as goal

pub loop-a-init : goal.loop-a-init
loop-a-init c =
    (refl, test_none _ _)

pub loop-a-preserved : goal.loop-a-preserved
loop-a-preserved c =
    let l = c.loop-a in
    (refl, test_more _ _ _ l.low c.degree.ensures l.invariant.1)

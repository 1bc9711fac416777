-- `settled::is_low` meets its contract: low is the test of the masks passed. Assumes nothing.
use Rattle.std.proofs.Common.{arith, ◌∙◌}
use Rattle.area.proofs.AreaLaws.{bit_stored}
use Rattle.area.specs.Area.{size_at}
use Rattle.messages.specs.LowTest.{test_none, test_more}
use Rattle.settled.proofs.is_low.Goals as goal

pub loop-p-init : goal.loop-p-init
loop-p-init c = test_none _ _

pub loop-p-preserved : goal.loop-p-preserved
loop-p-preserved c =
    let l = c.loop-p in
    let x = bit_stored (c.requires.1.bits l.p (omega arith)) in
    rw x (test_more _ _ (size_at c.args.a.now) l.low (c.from.ensures ∙ c.degree.ensures) l.invariant)

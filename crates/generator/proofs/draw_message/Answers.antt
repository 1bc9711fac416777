-- `generator::draw_message` meets its contract. Assumes nothing.
use Rattle.std.proofs.Common.{arith}
use Rattle.generator.specs.MessageLaws.{progress_none, progress_more, progress_all}
use Rattle.generator.proofs.draw_message.Goals as goal

pub loop-b-init : goal.loop-b-init
loop-b-init c =
    progress_none _ _

pub loop-b-preserved : goal.loop-b-preserved
loop-b-preserved c =
    progress_more c.loop-b.invariant c.step-x.ensures (omega arith)

pub returns : goal.returns
returns c =
    progress_all c.loop-b.invariant (omega arith)

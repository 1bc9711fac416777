-- `value_steps::quads::voiced` meets its contract. Assumes nothing.
use Rattle.value_steps.proofs.ValueReads.{voiced_taken, voiced_left}
use Rattle.value_steps.proofs.quads.voiced.Goals as goal

pub returns-then-w : goal.returns-then-w
returns-then-w c =
    voiced_taken c.requires c.said-t.ensures c.args.w c.if-w.true

pub returns-else-w : goal.returns-else-w
returns-else-w c =
    voiced_left c.requires c.said-t.ensures c.args.w c.if-w.false

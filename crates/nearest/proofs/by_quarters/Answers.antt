-- `nearest::by_quarters` meets its contract. Assumes nothing.
use borrow.Author.Tests.{lt-ltb, le-ltb}
use Rattle.nearest.proofs.by_quarters.Goals as goal

pub returns-then-m-gt3 : goal.returns-then-m-gt3
returns-then-m-gt3 c =
    rw (lt-ltb 3 c.args.m c.if-m-gt3.true)

pub returns-else-m-gt3 : goal.returns-else-m-gt3
returns-else-m-gt3 c =
    rw (le-ltb 3 c.args.m c.if-m-gt3.false)

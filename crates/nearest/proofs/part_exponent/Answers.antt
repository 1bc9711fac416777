-- `nearest::part_exponent` meets its contract. Assumes nothing.
use Rattle.nearest.proofs.part_exponent.Goals as goal

pub overflow_sub-result : goal.overflow_sub-result
overflow_sub-result c =
    c.requires.1 c.if-quarters.true

pub returns-then-quarters : goal.returns-then-quarters
returns-then-quarters c =
    rw c.if-quarters.true

pub returns-else-quarters : goal.returns-else-quarters
returns-else-quarters c =
    rw c.if-quarters.false

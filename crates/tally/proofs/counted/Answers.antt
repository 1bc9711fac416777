use Rattle.tally.specs.CountLaws.{one_more, full, other}
use Rattle.tally.proofs.counted.Goals as goal

pub returns-then-n-lt4294967295 : goal.returns-then-n-lt4294967295
returns-then-n-lt4294967295 c = search (one_more)

pub returns-else-n-lt4294967295 : goal.returns-else-n-lt4294967295
returns-else-n-lt4294967295 c = search (full)

pub returns-else-answer-lt32 : goal.returns-else-answer-lt32
returns-else-answer-lt32 c = search (other)

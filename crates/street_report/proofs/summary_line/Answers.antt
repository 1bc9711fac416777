-- `street_report::summary_line` meets its contract: the summary fits. Assumes nothing.
use Rattle.std.proofs.Common.{arith, rules}
use Rattle.notices.specs.PutLaws.{puts, puts_none}
use Rattle.street_report.proofs.summary_line.Goals as goal

pub returns-then-out-lt145 : goal.returns-then-out-lt145
returns-then-out-lt145 c =
    puts_none (omega arith)

pub returns : goal.returns
returns c =
    puts (omega arith) (search rules)

-- `street_report::step_line` meets its contract: the line fits. Assumes nothing.
use Rattle.std.proofs.Common.{arith, rules}
use Rattle.notices.specs.PutLaws.{puts, puts_none}
use Rattle.street_report.proofs.step_line.Goals as goal

pub returns-then-out-lt54 : goal.returns-then-out-lt54
returns-then-out-lt54 c =
    puts_none (omega arith)

pub returns : goal.returns
returns c =
    puts (omega arith) (search rules)

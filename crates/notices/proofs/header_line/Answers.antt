-- `notices::header_line` meets its contract. Assumes nothing.
use Rattle.text.specs.TextLaws.{decimal-length}
use Rattle.lines.specs.LineLaws.{header_length}
use Rattle.notices.specs.PutLaws.{puts, puts_none}
use Rattle.std.proofs.Common.{arith, rules}
use Rattle.notices.proofs.header_line.Goals as goal

pub returns-then-out-lt16 : goal.returns-then-out-lt16
returns-then-out-lt16 c =
    puts_none (omega arith)

pub put_header-requires : goal.put_header-requires
put_header-requires c =
    omega (arith, header_length, decimal-length 1 15 (omega arith))

pub returns : goal.returns
returns c =
    puts (omega arith) (search rules)

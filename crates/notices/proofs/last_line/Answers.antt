-- `notices::last_line` meets its contract. Assumes nothing.
use lib.Dec.{lit≤}
use native.Mathlib.Nat.{lt_of_lt_of_le}
use Rattle.text.specs.TextLaws.{decimal-length}
use Rattle.lines.specs.LineLaws.{last_length}
use Rattle.notices.specs.PutLaws.{puts, puts_none}
use Rattle.std.proofs.Common.{arith, rules}
use Rattle.notices.proofs.last_line.Goals as goal

pub returns-then-out-lt60 : goal.returns-then-out-lt60
returns-then-out-lt60 c =
    puts_none (omega arith)

pub put_last-requires : goal.put_last-requires
put_last-requires c =
    omega (arith, last_length c.args.records c.args.accepted, decimal-length 19 c.args.records (lt_of_lt_of_le c.ranges.records.fits (lit≤ tt)), decimal-length 19 c.args.accepted (lt_of_lt_of_le c.ranges.accepted.fits (lit≤ tt)))

pub returns : goal.returns
returns c =
    puts (omega arith) (search rules)

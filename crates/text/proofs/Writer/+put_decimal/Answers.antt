-- `text::Writer::put_decimal` meets its contract: the digits but the last are those of a tenth of the number. Assumes nothing.
use Rattle.std.proofs.Common.{ap, arith, length}
use Rattle.text.specs.TextLaws.{before_more, decimal_small, decimal_more, last_length, added_also}
use Rattle.text.proofs.Writer.+put_decimal.Goals as goal

pub put_byte-requires : goal.put_byte-requires
put_byte-requires t c = omega (arith, last_length c.args.n)

pub returns-then-n-lt10 : goal.returns-then-n-lt10
returns-then-n-lt10 t c = rw (decimal_small c.args.n (omega arith)) c.put_byte.ensures

pub put_decimal-requires : goal.put_decimal-requires
put_decimal-requires t c = (omega (arith, c.decreases), omega (arith, last_length c.args.n, ap length (before_more c.args.n (omega arith))))

pub put_byte-requires-2 : goal.put_byte-requires-2
put_byte-requires-2 t c =
    omega (arith, last_length c.args.n, ap length (before_more c.args.n (omega arith)), c.put_decimal.ensures.appended.ends, c.put_decimal.ensures.long)

pub returns : goal.returns
returns t c = rw (decimal_more c.args.n (omega arith)) (added_also c.put_decimal.ensures c.put_byte-2.ensures)

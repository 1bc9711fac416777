-- `crew::put_spaced` meets its contract: its texts stand one after the other. Assumes nothing.
use Rattle.std.proofs.Common.{arith}
use Rattle.text.specs.TextLaws.{added_also}
use Rattle.crew.proofs.CrewLaws.{spaced-length}
use Rattle.crew.proofs.put_spaced.Goals as goal

pub put_decimal-requires : goal.put_decimal-requires
put_decimal-requires c = omega (arith, spaced-length c.args.n c.ranges.n.fits, c.put_byte.ensures.appended.ends, c.put_byte.ensures.long)

pub returns-clause-text : goal.returns-clause-text
returns-clause-text c = added_also c.put_byte.ensures c.put_decimal.ensures

pub returns-clause-ends : goal.returns-clause-ends
returns-clause-ends c = omega (arith, spaced-length c.args.n c.ranges.n.fits, c.put_byte.ensures.appended.ends, c.put_decimal.ensures.appended.ends)

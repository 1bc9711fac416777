-- `street_report::put_count` meets its contract: the text stands after the number. Assumes nothing.
use Rattle.std.proofs.Common.{arith}
use Rattle.text.specs.TextLaws.{added_also}
use Rattle.street_report.specs.ReportLaws.{number_length}
use Rattle.street_report.proofs.put_count.Goals as goal

pub put_decimal-requires : goal.put_decimal-requires
put_decimal-requires c = omega (arith, number_length c.args.n c.ranges.n.fits)

pub put_text-requires : goal.put_text-requires
put_text-requires c = omega (arith, number_length c.args.n c.ranges.n.fits, c.put_decimal.ensures.appended.ends, c.put_decimal.ensures.long)

pub returns-clause-text : goal.returns-clause-text
returns-clause-text c = added_also c.put_decimal.ensures c.put_text.ensures

pub returns-clause-ends : goal.returns-clause-ends
returns-clause-ends c = omega (arith, number_length c.args.n c.ranges.n.fits, c.put_decimal.ensures.appended.ends, c.put_text.ensures.appended.ends)

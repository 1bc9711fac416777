-- `street_report::put_step` meets its contract: its texts stand one after the other. Assumes nothing.
use Rattle.std.proofs.Common.{arith}
use Rattle.text.specs.TextLaws.{added_also}
use Rattle.street_report.specs.ReportLaws.{number_length}
use Rattle.street_report.proofs.put_step.Goals as goal

pub put_decimal-requires : goal.put_decimal-requires
put_decimal-requires c = omega (arith, number_length c.args.attempt c.ranges.attempt.fits, c.put_count.ensures.ends, c.put_count.ensures.text.long)

pub put_answer-requires : goal.put_answer-requires
put_answer-requires c = omega (arith, number_length c.args.attempt c.ranges.attempt.fits, c.put_count.ensures.ends, c.put_count.ensures.text.long, c.put_decimal.ensures.appended.ends, c.put_decimal.ensures.long)

pub put_byte-requires : goal.put_byte-requires
put_byte-requires c = omega (arith, number_length c.args.attempt c.ranges.attempt.fits, c.put_count.ensures.ends, c.put_count.ensures.text.long, c.put_decimal.ensures.appended.ends, c.put_decimal.ensures.long, c.put_answer.ensures.ends, c.put_answer.ensures.text.long)

pub returns : goal.returns
returns c = added_also (added_also (added_also c.put_count.ensures.text c.put_decimal.ensures) c.put_answer.ensures.text) c.put_byte.ensures

-- `crew::put_record` meets its contract: each answer of the decoder has its numbers. Assumes nothing.
use Rattle.std.proofs.Common.{arith}
use Rattle.text.specs.TextLaws.{added_also, ten_length}
use Rattle.crew.proofs.put_record.Goals as goal

pub put_numbers-requires : goal.put_numbers-requires
put_numbers-requires c = omega (arith, ten_length c.args.serial, c.put_ten.ensures.appended.ends, c.put_ten.ensures.long)

pub put_numbers-requires-in-Err : goal.put_numbers-requires-in-Err
put_numbers-requires-in-Err c = omega (arith, ten_length c.args.serial, c.put_ten.ensures.appended.ends, c.put_ten.ensures.long)

pub returns-in-Ok : goal.returns-in-Ok
returns-in-Ok c = rw c.in-Ok.is (added_also c.put_ten.ensures c.put_numbers.ensures)

pub returns-in-Err : goal.returns-in-Err
returns-in-Err c = rw (c.in-Err.is, ← c.number-refusal.ensures) (added_also c.put_ten.ensures c.put_numbers-in-Err.ensures)

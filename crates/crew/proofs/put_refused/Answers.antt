-- `crew::put_refused` meets its contract: its texts stand one after the other. Assumes nothing.
use Rattle.std.proofs.Common.{arith}
use Rattle.text.specs.TextLaws.{added_also}
use Rattle.crew.proofs.CrewLaws.{serial_length}
use Rattle.crew.proofs.put_refused.Goals as goal

pub put_numbers-requires : goal.put_numbers-requires
put_numbers-requires c = omega (arith, serial_length c.args.refusal c.args.serial, c.put_serial.ensures.appended.ends, c.put_serial.ensures.long)

pub returns : goal.returns
returns c = added_also c.put_serial.ensures c.put_numbers.ensures

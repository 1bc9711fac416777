-- `billing::put_accepted` meets its contract: its texts stand one after the other. Assumes nothing.
use Rattle.std.proofs.Common.{arith, refl}
use Rattle.text.specs.TextLaws.{added_also, ten_length}
use Rattle.lines.specs.LineLaws.{accepted_length}
use Rattle.billing.proofs.put_accepted.Goals as goal

pub put_ten-requires : goal.put_ten-requires
put_ten-requires c = omega (arith, accepted_length c.args.serial c.args.message.now)

pub put_hex-w-requires : goal.put_hex-w-requires
put_hex-w-requires c =
    (c.requires.0, c.requires.1, omega (arith, accepted_length c.args.serial c.args.message.now, ten_length c.args.serial, c.put_ten.ensures.appended.ends, c.put_ten.ensures.long, c.put_byte.ensures.appended.ends, c.put_byte.ensures.long))

pub returns : goal.returns
returns c =
    added_also (added_also (added_also c.put_ten.ensures c.put_byte.ensures) (record { appended = c.put_hex-w.ensures; long = c.put_hex-w.auto.out; same = refl }))
    c.put_byte-2.ensures

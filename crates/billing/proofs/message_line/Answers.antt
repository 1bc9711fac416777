-- `billing::message_line` meets its contract: the message reader cannot refuse a codeword. Assumes nothing.
use Rattle.std.proofs.Common.{List, arith, ap, length, subst, sym, ℕ}
use Rattle.lines.specs.Lines.{accepted_line}
use Rattle.text.specs.Texts.{Added, Bits}
use Rattle.lines.specs.LineLaws.{accepted_length}
use Rattle.code.proofs.MessageLaws.{message_bits, message_length}
use Rattle.billing.specs.MessageLines.{reads_message}
use Rattle.billing.proofs.message_line.Goals as goal

pub put_accepted-requires : goal.put_accepted-requires
put_accepted-requires c =
    let message = c.read_message.new.out in
    let e = reads_message c.requires.0 c.read_message.ensures in
    let size = message_length c.args.m c.args.r c.args.decoded.now in (
      subst Bits (sym e) (message_bits c.args.m c.args.r c.args.decoded.now),
      omega (arith, ap length e, size, c.requires.0.sized, c.requires.0.small),
      omega (arith, accepted_length c.args.serial message, ap length e, size, c.requires.0.sized, c.requires.0.small),
    )

pub returns : goal.returns
returns c =
    let e = reads_message c.requires.0 c.read_message.ensures in
    subst (λ (l : List ℕ). Added (accepted_line c.args.serial l) c.args.w.now c.put_accepted.new.w) e c.put_accepted.ensures

-- `octets::add_bit` meets its contract. Assumes nothing.
use Rattle.octets.specs.OctetLaws.{bit_added}
use Rattle.octets.proofs.add_bit.Goals as goal

pub returns : goal.returns
returns c f b e =
    rw e (bit_added c.args.t c.requires f b)

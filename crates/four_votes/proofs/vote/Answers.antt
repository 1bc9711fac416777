-- `four_votes::vote` meets its contract: exclusive or of two bits is their sum. Assumes nothing.
use lib.Bits.{bit_xor}
use Rattle.area.specs.Area.{at}
use Rattle.area.proofs.AreaLaws.{bits_xor}
use Rattle.projections.proofs.FourParts.{sum_bit}
use Rattle.four_votes.proofs.vote.Goals as goal

pub returns : goal.returns
returns c =
    let a = c.args in
    rw c.pair.ensures (bits_xor c.requires.i_in_bounds.1 (sum_bit (at a.x.now a.i) (at a.y.now (bit_xor a.i a.l))))

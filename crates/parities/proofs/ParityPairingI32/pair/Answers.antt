-- The pair is a turn's two entries. Assumes nothing.
use Rattle.area.proofs.AreaLaws.{bit_back, bits_xor}
use Rattle.parities.specs.Parities.{number_parities}
use Rattle.parities.proofs.ParityPairingI32.pair.Goals as goal

pub returns : goal.returns
unfolding number_parities
returns c = (bit_back c.requires.0, bits_xor c.requires.0 c.requires.1)

-- The pair is a turn's two entries. Assumes nothing.
use Rattle.std.proofs.Common.{refl}
use Rattle.words.specs.Xor.{xor_bits}
use Rattle.coefficients.specs.TransformLaws.{parities}
use Rattle.coefficients.proofs.ParityPairingU8.pair.Goals as goal

pub returns : goal.returns
unfolding parities
returns c = (refl, xor_bits _ _ c.requires.0 c.requires.1)

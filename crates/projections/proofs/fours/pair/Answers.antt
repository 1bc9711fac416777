-- `projections::fours::pair` meets its contract: exclusive or of two bits is their sum. Assumes nothing.
use Rattle.area.proofs.AreaLaws.{bits_xor}
use Rattle.projections.proofs.fours.pair.Goals as goal

pub returns : goal.returns
returns c =
    bits_xor c.requires.one c.requires.two

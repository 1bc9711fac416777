-- `parities::four` meets its contract: all four numbers are read before the first is set. Assumes nothing.
use Rattle.parities.specs.Fours.{four_added}
use Rattle.parities.proofs.four.Goals as goal

pub returns : goal.returns
returns c =
    four_added c.requires

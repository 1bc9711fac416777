-- `coefficients::four` meets its contract: two halves, then their butterflies. Assumes nothing.
use mathlib.Core.Path.{refl}
use Rattle.words.specs.Levels.{first_lent, second_lent, halves_ready, halves_joined}
use Rattle.coefficients.specs.TransformLaws.{parities}
use Rattle.coefficients.proofs.four.Goals as goal

pub two-requires : goal.two-requires
two-requires c =
    first_lent parities refl refl c.requires refl

pub two-requires-2 : goal.two-requires-2
two-requires-2 c =
    second_lent parities refl refl c.requires refl c.two.ensures refl

pub butterfly-requires : goal.butterfly-requires
butterfly-requires c =
    halves_ready parities refl refl c.requires refl c.two.ensures refl c.two-2.ensures

pub returns : goal.returns
returns c =
    halves_joined parities refl refl c.requires refl c.two.ensures refl c.two-2.ensures c.butterfly.ensures

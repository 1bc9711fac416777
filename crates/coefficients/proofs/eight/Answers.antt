-- `coefficients::eight` meets its contract: two halves, then their butterflies. Assumes nothing.
use mathlib.Core.Path.{refl}
use Rattle.words.specs.Levels.{first_lent, second_lent, halves_ready, halves_joined}
use Rattle.coefficients.specs.TransformLaws.{parities}
use Rattle.coefficients.proofs.eight.Goals as goal

pub four-requires : goal.four-requires
four-requires c =
    first_lent parities refl refl c.requires refl

pub four-requires-2 : goal.four-requires-2
four-requires-2 c =
    second_lent parities refl refl c.requires refl c.four.ensures refl

pub butterfly-requires : goal.butterfly-requires
butterfly-requires c =
    halves_ready parities refl refl c.requires refl c.four.ensures refl c.four-2.ensures

pub returns : goal.returns
returns c =
    halves_joined parities refl refl c.requires refl c.four.ensures refl c.four-2.ensures c.butterfly.ensures

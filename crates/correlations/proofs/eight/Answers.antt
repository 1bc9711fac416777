-- `correlations::eight` meets its contract: the transform of two halves, joined. Assumes nothing.
use mathlib.Core.Path.{refl}
use Rattle.words.specs.Levels.{first_lent, second_lent, halves_ready, halves_joined}
use Rattle.hadamard.specs.Transform.{sums}
use Rattle.correlations.proofs.eight.Goals as goal

pub four-requires : goal.four-requires
four-requires c =
    first_lent sums {m = 3} {k = 2} refl refl c.requires refl

pub four-requires-2 : goal.four-requires-2
four-requires-2 c =
    second_lent sums {m = 3} {k = 2} refl refl c.requires refl c.four.ensures refl

pub butterfly-requires : goal.butterfly-requires
butterfly-requires c =
    halves_ready sums {m = 3} {k = 2} refl refl c.requires refl c.four.ensures refl c.four-2.ensures

pub returns : goal.returns
returns c =
    halves_joined sums {m = 3} {k = 2} refl refl c.requires refl c.four.ensures refl c.four-2.ensures
    c.butterfly.ensures

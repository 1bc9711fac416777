-- `quads::number_of` meets its contract. Assumes nothing.
use Rattle.quads.proofs.QuadCasts.{raised_fits, raised_casts, lowered_fits, number_is}
use Rattle.quads.proofs.number_of.Goals as goal

pub overflow_add-result : goal.overflow_add-result
overflow_add-result c =
    raised_fits c.requires.0

pub overflow_cast-result : goal.overflow_cast-result
overflow_cast-result c =
    raised_casts c.requires.0

pub overflow_sub-result : goal.overflow_sub-result
overflow_sub-result c =
    lowered_fits c.args.w c.requires.0

pub returns : goal.returns
returns c =
    number_is c.args.w c.requires.0

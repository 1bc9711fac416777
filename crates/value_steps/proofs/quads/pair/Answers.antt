-- `value_steps::quads::pair` meets its contract. Assumes nothing.
use Rattle.value_steps.proofs.FourJoins.{pair_asks, pair_kept}
use Rattle.value_steps.proofs.quads.pair.Goals as goal

pub joint-requires : goal.joint-requires
joint-requires c =
    pair_asks c.requires

pub returns : goal.returns
returns c =
    pair_kept c.requires c.joint.ensures

-- `halves::second_of` meets its contract. Assumes nothing.
use Rattle.halves.proofs.Casts.{second_is}
use Rattle.halves.proofs.second_of.Goals as goal

pub returns : goal.returns
returns c =
    second_is c.args.z c.requires

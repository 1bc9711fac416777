-- `halves::first_of` meets its contract. Assumes nothing.
use Rattle.halves.proofs.Casts.{first_is}
use Rattle.halves.proofs.first_of.Goals as goal

pub returns : goal.returns
returns c =
    first_is c.args.z c.requires

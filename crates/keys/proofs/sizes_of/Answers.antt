-- `keys::sizes_of` meets its contract. Assumes nothing.
use Rattle.keys.proofs.Sizes.{sizes_room, sizes_are}
use Rattle.keys.proofs.sizes_of.Goals as goal

pub overflow_add-result : goal.overflow_add-result
overflow_add-result c =
    record { fits = sizes_room c.requires c.pairs_of.ensures c.offs_of-a.ensures }

pub returns : goal.returns
returns c =
    sizes_are c.requires c.pairs_of.ensures c.offs_of-a.ensures

-- `keys::key_of` meets its contract. Assumes nothing.
use Rattle.keys.proofs.Greater.{key_first, key_second}
use Rattle.keys.proofs.key_of.Goals as goal

pub returns-then-s-d : goal.returns-then-s-d
returns-then-s-d c =
    let pre = c.requires in key_second pre.0 pre.1 c.sizes_of-b.ensures c.if-s-d.true

pub returns-else-s-d : goal.returns-else-s-d
returns-else-s-d c =
    let pre = c.requires in key_first pre.0 pre.1 c.sizes_of-b.ensures c.if-s-d.false

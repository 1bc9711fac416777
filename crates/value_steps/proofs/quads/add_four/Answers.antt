-- `value_steps::quads::add_four` meets its contract: all four are read before the first is set. Assumes nothing.
use lib.Dec.{lit<}
use Rattle.value_steps.proofs.FourShares.{first_fits, new_fits, four_added}
use Rattle.value_steps.proofs.quads.add_four.Goals as goal

pub overflow_add-a0 : goal.overflow_add-a0
overflow_add-a0 c =
    first_fits c.requires

pub overflow_add-a1-2 : goal.overflow_add-a1-2
overflow_add-a1-2 c =
    new_fits c.requires 1 (lit< tt)

pub overflow_add-a2-2 : goal.overflow_add-a2-2
overflow_add-a2-2 c =
    new_fits c.requires 2 (lit< tt)

pub overflow_add-a3-2 : goal.overflow_add-a3-2
overflow_add-a3-2 c =
    new_fits c.requires 3 (lit< tt)

pub returns : goal.returns
returns c =
    four_added c.requires c.put_four.ensures

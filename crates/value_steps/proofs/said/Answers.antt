-- `value_steps::said` meets its contract. Assumes nothing.
use Rattle.std.proofs.Common.{arith}
use Rattle.value_steps.proofs.ValueReads.{turned_asks, turned_is}
use Rattle.value_steps.proofs.said.Goals as goal

pub turned-requires : goal.turned-requires
turned-requires c =
    turned_asks c.requires

pub returns : goal.returns
returns c =
    turned_is c.requires (omega arith) c.turned.ensures

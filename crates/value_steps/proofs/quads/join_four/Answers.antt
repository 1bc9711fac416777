-- `value_steps::quads::join_four` meets its contract: all is read before the first joint value is written. Assumes nothing.
use lib.Dec.{lit<}
use Rattle.value_steps.proofs.FourJoins.{first_pair, pair_of, partner_fits, four_joined}
use Rattle.value_steps.proofs.quads.join_four.Goals as goal

pub pair-x0-requires : goal.pair-x0-requires
pair-x0-requires c =
    first_pair c.requires

pub overflow_add-z-2 : goal.overflow_add-z-2
overflow_add-z-2 c =
    partner_fits c.requires c.well_formed.0.1 1 (lit< tt)

pub pair-x1-requires : goal.pair-x1-requires
pair-x1-requires c =
    pair_of c.requires 1 (lit< tt)

pub overflow_add-z-3 : goal.overflow_add-z-3
overflow_add-z-3 c =
    partner_fits c.requires c.well_formed.0.1 2 (lit< tt)

pub pair-x2-requires : goal.pair-x2-requires
pair-x2-requires c =
    pair_of c.requires 2 (lit< tt)

pub overflow_add-z-4 : goal.overflow_add-z-4
overflow_add-z-4 c =
    partner_fits c.requires c.well_formed.0.1 3 (lit< tt)

pub pair-x3-requires : goal.pair-x3-requires
pair-x3-requires c =
    pair_of c.requires 3 (lit< tt)

pub returns : goal.returns
returns c =
    four_joined c.requires c.pair-x0.ensures c.pair-x1.ensures c.pair-x2.ensures c.pair-x3.ensures c.put_four.ensures

-- `value_steps::hear` meets its contract. Assumes nothing.
use native.Mathlib.Omega.{arith}
use lib.IntN.{pos}
use Rattle.words.specs.Written.{written_none, written_more}
use Rattle.value_steps.proofs.ValueReads.{hear_fits, hear_is}
use Rattle.value_steps.proofs.hear.Goals as goal

pub overflow_add-area : goal.overflow_add-area
overflow_add-area c =
    hear_fits c.requires c.said-t.ensures

pub returns : goal.returns
returns c =
    written_more (written_none (pos 0) c.args.r _ c.args.area.now) c.args.r _ (omega arith) c.requires.room (hear_is c.requires c.said-t.ensures)

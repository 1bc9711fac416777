-- `value_orders::ends::renew` meets its contract. Assumes nothing.
use native.Mathlib.Omega.{arith}
use Rattle.words.specs.Written.{written_none, written_more, written_to}
use Rattle.value_orders.specs.EndLaws.{sum_small, cut_written}
use Rattle.value_orders.proofs.ends.renew.Goals as goal

pub loop-p-init : goal.loop-p-init
loop-p-init c =
    (omega arith, written_none _ _ _ _)

pub cut-requires : goal.cut-requires
cut-requires c =
    sum_small c.requires.1 c.loop-p.invariant.1 c.loop-p-test.true

pub loop-p-preserved : goal.loop-p-preserved
loop-p-preserved c =
    let l = c.loop-p in (
      omega arith,
      written_more l.invariant.1 _ _ (omega arith) (omega arith)
          (cut_written c.requires.1 l.invariant.1 c.loop-p-test.true _ c.cut.ensures),
    )

pub returns : goal.returns
returns c =
    written_to c.loop-p.invariant.1 _ (omega arith)

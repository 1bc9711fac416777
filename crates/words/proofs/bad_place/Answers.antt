-- `words::bad_place` meets its contract: no byte is above 1 where all passed the test, else none that was passed. Assumes nothing.
use Rattle.std.proofs.Common.{arith, sym, ◌∙◌, ltb-true}
use borrow.Author.Count.{below_more}
use Rattle.words.specs.SumLaws.{all_true}
use Rattle.words.specs.Search.{lowest_found}
use Rattle.words.proofs.bad_place.Goals as goal

pub returns-then-all_bits : goal.returns-then-all_bits
returns-then-all_bits c =
    lowest_found _ _ (omega arith) (λ q l. ltb-true _ _ (all_true _ _ (sym c.all_bits.ensures ∙ c.if-all_bits.true) q l)) (λ l. omega arith)

pub returns-then-s-p-gt1 : goal.returns-then-s-p-gt1
returns-then-s-p-gt1 c =
    lowest_found _ _ (omega arith) c.loop-p.invariant.1 (λ l. omega arith)

pub loop-p-preserved : goal.loop-p-preserved
loop-p-preserved c =
    (omega arith, below_more _ _ c.loop-p.invariant.1 (omega arith))

pub returns : goal.returns
returns c =
    lowest_found _ _ (omega arith) (λ q l. c.loop-p.invariant.1 q (omega arith)) (λ l. omega arith)

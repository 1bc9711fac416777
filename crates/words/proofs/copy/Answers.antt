-- `words::copy` meets its contract: the loop writes dst from its front. Assumes nothing.
use Rattle.std.proofs.Common.{arith, refl, ◌∙◌}
use Rattle.words.specs.SumLaws.{tabulate-get_or}
use Rattle.words.specs.Written.{written_none, written_more, written_all}
use Rattle.words.proofs.copy.Goals as goal

pub loop-i-init : goal.loop-i-init
loop-i-init c = (omega arith, refl, written_none 0 0 _ _)

pub loop-i-preserved : goal.loop-i-preserved
loop-i-preserved c =
    let w = written_more c.loop-i.invariant.2 c.loop-i.i _ (omega arith) (omega arith) refl in
    (omega arith, w.long, w)

pub returns : goal.returns
returns c = written_all c.loop-i.invariant.2 (omega arith) ∙ tabulate-get_or _ c.args.src.now 0 (omega arith)

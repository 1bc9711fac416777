use Rattle.words.specs.SumLaws.{all_none, all_more}
use Rattle.words.proofs.all_bits.Goals as goal

pub loop-b-init : goal.loop-b-init
loop-b-init c = all_none _

pub loop-b-preserved : goal.loop-b-preserved
loop-b-preserved c = all_more _ _ _ c.loop-b.invariant

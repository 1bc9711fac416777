use Rattle.std.proofs.Common.{arith, rules}
use Rattle.words.specs.Levels.{halved_keeps}
use Rattle.transforms.proofs.EachBlockLaws.{block_of}
use Rattle.coefficients.specs.TransformLaws.{parities}
use Rattle.coefficients.proofs.eights.Goals as goal

pub each_block-requires-clause-takes : goal.each_block-requires-clause-takes
each_block-requires-clause-takes c = let given = block_of c.requires 3 (omega arith) in search rules

pub returns : goal.returns
returns c = c.each_block.ensures _ (halved_keeps parities 3) (λ p q e. search rules)

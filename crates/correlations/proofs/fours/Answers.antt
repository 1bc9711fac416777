use Rattle.std.proofs.Common.{arith, rules}
use Rattle.words.specs.Levels.{halved_keeps}
use Rattle.transforms.proofs.EachBlockLaws.{block_of}
use Rattle.hadamard.specs.Transform.{sums}
use Rattle.correlations.proofs.fours.Goals as goal

pub each_block-requires-clause-takes : goal.each_block-requires-clause-takes
each_block-requires-clause-takes c = let given = block_of c.requires 2 (omega arith) in search rules

pub returns : goal.returns
returns c = c.each_block.ensures _ (halved_keeps sums 2) (λ p q e. search rules)

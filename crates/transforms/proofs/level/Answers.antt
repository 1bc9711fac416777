use Rattle.std.proofs.Common.{rules}
use Rattle.words.specs.Levels.{butterflies_keep}
use Rattle.transforms.proofs.level.Goals as goal

pub returns : goal.returns
returns g c = c.each_block.ensures _ (butterflies_keep g.K.Pairing.rule c.args.h) (λ p q e. search rules)

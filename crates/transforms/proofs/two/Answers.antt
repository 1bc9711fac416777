use Rattle.std.proofs.Common.{◌∙◌}
use Rattle.words.specs.ButterflyLaws.{halved_one}
use Rattle.transforms.proofs.two.Goals as goal

pub returns : goal.returns
returns g c = c.butterfly.ensures ∙ halved_one g.K.Pairing.rule _

-- `generator::step` meets its contract. Assumes nothing.
use mathlib.Core.Path.{refl}
use Rattle.generator.specs.Generator.{step}
use Rattle.generator.proofs.step.Goals as goal

pub returns : goal.returns
unfolding step
returns c =
    refl

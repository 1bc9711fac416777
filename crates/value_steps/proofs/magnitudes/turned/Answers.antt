-- `value_steps::magnitudes::turned` meets its contract. Assumes nothing.
use Rattle.area.specs.Numbers.{negated_fits}
use Rattle.value_steps.proofs.Joints.{sign_taken, sign_left}
use Rattle.value_steps.proofs.magnitudes.turned.Goals as goal

pub overflow_sub-result : goal.overflow_sub-result
overflow_sub-result c =
    negated_fits c.args.z c.requires

pub returns-then-s-lt0 : goal.returns-then-s-lt0
returns-then-s-lt0 c =
    sign_taken c.args.z c.requires c.args.s c.ranges.s c.if-s-lt0.true

pub returns-else-s-lt0 : goal.returns-else-s-lt0
returns-else-s-lt0 c =
    sign_left c.args.z c.requires c.args.s c.ranges.s c.if-s-lt0.false

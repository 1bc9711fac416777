-- `value_steps::magnitudes::cut` meets its contract. Assumes nothing.
use Rattle.value_steps.proofs.Joints.{cut_low, cut_high, cut_between}
use Rattle.value_steps.proofs.magnitudes.cut.Goals as goal

pub returns-then-z-ltminus2047 : goal.returns-then-z-ltminus2047
returns-then-z-ltminus2047 c =
    cut_low c.args.z c.ranges.z c.if-z-ltminus2047.true

pub returns-then-z-gt2047 : goal.returns-then-z-gt2047
returns-then-z-gt2047 c =
    cut_high c.args.z c.ranges.z c.if-z-gt2047.true

pub returns : goal.returns
returns c =
    cut_between c.args.z c.ranges.z c.if-z-ltminus2047.false c.if-z-gt2047.false

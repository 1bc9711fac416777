-- `value_steps::magnitudes::joint` meets its contract. Assumes nothing.
use Rattle.value_steps.proofs.Joints.{add_fits, sub_fits, sum_read, difference_read, sizes_fit, joint_read}
use Rattle.value_steps.proofs.magnitudes.joint.Goals as goal

pub overflow_add-y : goal.overflow_add-y
overflow_add-y c =
    add_fits c.args.y c.args.z c.requires

pub absolute-requires : goal.absolute-requires
absolute-requires c =
    sum_read c.args.y c.args.z c.requires

pub overflow_sub-y : goal.overflow_sub-y
overflow_sub-y c =
    sub_fits c.args.y c.args.z c.requires

pub absolute-requires-2 : goal.absolute-requires-2
absolute-requires-2 c =
    difference_read c.args.y c.args.z c.requires

pub overflow_sub-result : goal.overflow_sub-result
overflow_sub-result c =
    sizes_fit c.args.y c.args.z c.requires c.absolute.ensures c.absolute-2.ensures

pub returns : goal.returns
returns c =
    joint_read c.args.y c.args.z c.requires c.absolute.ensures c.absolute-2.ensures

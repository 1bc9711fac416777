-- `four_votes::add_four` meets its contract: all four entries are read before the first is set. Assumes nothing.
use native.Mathlib.Omega.{arith}
use Rattle.four_votes.proofs.FourAdds.{index_fits, index_lt, new_fits, room_1, room_2, room_3, four_added}
use Rattle.four_votes.proofs.add_four.Goals as goal

pub overflow_add-a0 : goal.overflow_add-a0
overflow_add-a0 c =
    new_fits c.requires 0 (omega arith)

pub offset_bounds-part-l-2 : goal.offset_bounds-part-l-2
offset_bounds-part-l-2 c =
    index_fits c.requires 1 (omega arith)

pub slice_copy_out-a1 : goal.slice_copy_out-a1
slice_copy_out-a1 c =
    index_lt c.requires 1 (omega arith)

pub overflow_add-a1 : goal.overflow_add-a1
overflow_add-a1 c =
    new_fits c.requires 1 (omega arith)

pub offset_bounds-part-l-3 : goal.offset_bounds-part-l-3
offset_bounds-part-l-3 c =
    index_fits c.requires 2 (omega arith)

pub slice_copy_out-a2 : goal.slice_copy_out-a2
slice_copy_out-a2 c =
    index_lt c.requires 2 (omega arith)

pub overflow_add-a2 : goal.overflow_add-a2
overflow_add-a2 c =
    new_fits c.requires 2 (omega arith)

pub offset_bounds-part-l-4 : goal.offset_bounds-part-l-4
offset_bounds-part-l-4 c =
    index_fits c.requires 3 (omega arith)

pub slice_copy_out-a3 : goal.slice_copy_out-a3
slice_copy_out-a3 c =
    index_lt c.requires 3 (omega arith)

pub overflow_add-a3 : goal.overflow_add-a3
overflow_add-a3 c =
    new_fits c.requires 3 (omega arith)

pub offset_bounds-part-l-6 : goal.offset_bounds-part-l-6
offset_bounds-part-l-6 c =
    index_fits c.requires 1 (omega arith)

pub bounds-part-l-2 : goal.bounds-part-l-2
bounds-part-l-2 c =
    room_1 c.requires

pub offset_bounds-part-l-7 : goal.offset_bounds-part-l-7
offset_bounds-part-l-7 c =
    index_fits c.requires 2 (omega arith)

pub bounds-part-l-3 : goal.bounds-part-l-3
bounds-part-l-3 c =
    room_2 c.requires

pub offset_bounds-part-l-8 : goal.offset_bounds-part-l-8
offset_bounds-part-l-8 c =
    index_fits c.requires 3 (omega arith)

pub bounds-part-l-4 : goal.bounds-part-l-4
bounds-part-l-4 c =
    room_3 c.requires

pub returns : goal.returns
returns c =
    four_added c.requires

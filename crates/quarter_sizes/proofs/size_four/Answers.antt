-- `quarter_sizes::size_four` meets its contract: all quads are read before the first size is written. Assumes nothing.
use Prim.Native.Nat.{◌+◌}
use mathlib.Core.Path.{ap, ◌∙◌}
use native.Mathlib.Nat.{add_assoc}
use native.Mathlib.Omega.{arith}
use lib.IntN.{pos}
use Rattle.quads.specs.Quads.{sum_size, difference_size}
use Rattle.quads.specs.Small.{sum_small, difference_small}
use Rattle.quarter_sizes.proofs.QuadReads.{quad_bounded, four_written, size_rooms}
use Rattle.quarter_sizes.proofs.size_four.Goals as goal

pub offset_bounds-part-i : goal.offset_bounds-part-i
offset_bounds-part-i c = (size_rooms c.args.i c.requires c.well_formed.1.1.0.1).quads.start.bytes

pub slice_copy_out-sizes_of : goal.slice_copy_out-sizes_of
slice_copy_out-sizes_of c = (size_rooms c.args.i c.requires c.well_formed.1.1.0.1).quads.start.below

pub sizes_of-b0-requires : goal.sizes_of-b0-requires
sizes_of-b0-requires c = quad_bounded c.requires.1 c.args.i (omega arith)

pub overflow_add-i : goal.overflow_add-i
overflow_add-i c = ((size_rooms c.args.i c.requires c.well_formed.1.1.0.1).quads.each 1 tt).index

pub offset_bounds-part-i-2 : goal.offset_bounds-part-i-2
offset_bounds-part-i-2 c = ((size_rooms c.args.i c.requires c.well_formed.1.1.0.1).quads.each 1 tt).bytes

pub slice_copy_out-sizes_of-2 : goal.slice_copy_out-sizes_of-2
slice_copy_out-sizes_of-2 c = ((size_rooms c.args.i c.requires c.well_formed.1.1.0.1).quads.each 1 tt).below

pub sizes_of-b1-requires : goal.sizes_of-b1-requires
sizes_of-b1-requires c = quad_bounded c.requires.1 (c.args.i + 1) (omega arith)

pub overflow_add-i-2 : goal.overflow_add-i-2
overflow_add-i-2 c = ((size_rooms c.args.i c.requires c.well_formed.1.1.0.1).quads.each 2 tt).index

pub offset_bounds-part-i-3 : goal.offset_bounds-part-i-3
offset_bounds-part-i-3 c = ((size_rooms c.args.i c.requires c.well_formed.1.1.0.1).quads.each 2 tt).bytes

pub slice_copy_out-sizes_of-3 : goal.slice_copy_out-sizes_of-3
slice_copy_out-sizes_of-3 c = ((size_rooms c.args.i c.requires c.well_formed.1.1.0.1).quads.each 2 tt).below

pub sizes_of-b2-requires : goal.sizes_of-b2-requires
sizes_of-b2-requires c = quad_bounded c.requires.1 (c.args.i + 2) (omega arith)

pub overflow_add-i-3 : goal.overflow_add-i-3
overflow_add-i-3 c = ((size_rooms c.args.i c.requires c.well_formed.1.1.0.1).quads.each 3 tt).index

pub offset_bounds-part-i-4 : goal.offset_bounds-part-i-4
offset_bounds-part-i-4 c = ((size_rooms c.args.i c.requires c.well_formed.1.1.0.1).quads.each 3 tt).bytes

pub slice_copy_out-sizes_of-4 : goal.slice_copy_out-sizes_of-4
slice_copy_out-sizes_of-4 c = ((size_rooms c.args.i c.requires c.well_formed.1.1.0.1).quads.each 3 tt).below

pub sizes_of-b3-requires : goal.sizes_of-b3-requires
sizes_of-b3-requires c = quad_bounded c.requires.1 (c.args.i + 3) (omega arith)

pub overflow_add-s : goal.overflow_add-s
overflow_add-s c = (size_rooms c.args.i c.requires c.well_formed.1.1.0.1).sums.start.index

pub put_four-requires : goal.put_four-requires
put_four-requires c = (size_rooms c.args.i c.requires c.well_formed.1.1.0.1).sums.within

pub overflow_add-q : goal.overflow_add-q
overflow_add-q c = (size_rooms c.args.i c.requires c.well_formed.1.1.0.1).differences.start.index

pub put_four-requires-2 : goal.put_four-requires-2
put_four-requires-2 c = rw c.put_four.ensures.long (size_rooms c.args.i c.requires c.well_formed.1.1.0.1).differences.within

pub returns : goal.returns
returns c =
    record {
      between = c.put_four.new.a;
      sums =
          four_written c.args.i c.requires sum_size sum_small
          (c.first.ensures ∙ ap pos c.sizes_of-b0.ensures.0)
          (c.first-2.ensures ∙ ap pos c.sizes_of-b1.ensures.0)
          (c.first-3.ensures ∙ ap pos c.sizes_of-b2.ensures.0)
          (c.first-4.ensures ∙ ap pos c.sizes_of-b3.ensures.0)
          c.put_four.ensures;
      differences =
          rw (add_assoc c.args.q c.args.q c.args.i)
          (four_written c.args.i c.requires difference_size difference_small
          (c.second.ensures ∙ ap pos c.sizes_of-b0.ensures.1)
          (c.second-2.ensures ∙ ap pos c.sizes_of-b1.ensures.1)
          (c.second-3.ensures ∙ ap pos c.sizes_of-b2.ensures.1)
          (c.second-4.ensures ∙ ap pos c.sizes_of-b3.ensures.1)
          c.put_four-2.ensures);
    }

pub shape_of-part : goal.shape_of-part
shape_of-part c =
    let f = returns c in f.differences.long ∙ f.sums.long

-- `quarter_packing::pack_four` meets its contract: all four quads are made before the first is written. Assumes nothing.
use Rattle.quarter_packing.proofs.SignCasts.{first_quad, four_packed, next_quad, packed_many, packed_source, packed_target}
use Rattle.quarter_packing.proofs.pack_four.Goals as goal

pub quad_at-z0-requires : goal.quad_at-z0-requires
quad_at-z0-requires c = first_quad c.args.i c.requires

pub overflow_add-i : goal.overflow_add-i
overflow_add-i c = ((packed_source c.args.i c.requires c.well_formed.1.1.0.1).each 1 tt).index

pub quad_at-z1-requires : goal.quad_at-z1-requires
quad_at-z1-requires c = next_quad c.args.i c.requires 1 tt

pub overflow_add-i-2 : goal.overflow_add-i-2
overflow_add-i-2 c = ((packed_source c.args.i c.requires c.well_formed.1.1.0.1).each 2 tt).index

pub quad_at-z2-requires : goal.quad_at-z2-requires
quad_at-z2-requires c = next_quad c.args.i c.requires 2 tt

pub overflow_add-i-3 : goal.overflow_add-i-3
overflow_add-i-3 c = ((packed_source c.args.i c.requires c.well_formed.1.1.0.1).each 3 tt).index

pub quad_at-z3-requires : goal.quad_at-z3-requires
quad_at-z3-requires c = next_quad c.args.i c.requires 3 tt

pub overflow_mul-q : goal.overflow_mul-q
overflow_mul-q c = packed_many c.args.i c.requires c.well_formed.1.1.0.1

pub overflow_add-q : goal.overflow_add-q
overflow_add-q c = (packed_target c.args.i c.requires c.well_formed.1.1.0.1).start.index

pub put_four-requires : goal.put_four-requires
put_four-requires c = (packed_target c.args.i c.requires c.well_formed.1.1.0.1).within

pub returns : goal.returns
returns c =
    four_packed c.args.i c.requires
    c.quad_at-z0.ensures
    c.quad_at-z1.ensures
    c.quad_at-z2.ensures
    c.quad_at-z3.ensures
    c.put_four.ensures

pub shape_of-area : goal.shape_of-area
shape_of-area c = (returns c).long

-- `projections::fours::project_four` meets its contract: all bits are read before the first sum is written. Assumes nothing.
use lib.Dec.{lit<}
use lib.ListN.{length}
use Rattle.area.specs.Places.{Places, places}
use Rattle.projections.proofs.FourParts.{four_pair, four_written}
use Rattle.projections.proofs.fours.project_four.Goals as goal

pub overflow_add-x : goal.overflow_add-x
overflow_add-x c =
    let place : Places c.args.p 4 (length c.args.area.now) = places c.well_formed.0.1 tt c.requires.place in
    (place).end

pub offset_bounds-area-p : goal.offset_bounds-area-p
offset_bounds-area-p c =
    let place : Places c.args.p 4 (length c.args.area.now) = places c.well_formed.0.1 tt c.requires.place in
    (place).start.bytes

pub slice_bounds-x-count : goal.slice_bounds-x-count
slice_bounds-x-count c =
    let place : Places c.args.p 4 (length c.args.area.now) = places c.well_formed.0.1 tt c.requires.place in
    (place).ordered

pub slice_bounds-x-start : goal.slice_bounds-x-start
slice_bounds-x-start c =
    let place : Places c.args.p 4 (length c.args.area.now) = places c.well_formed.0.1 tt c.requires.place in
    (place).ordered

pub slice_bounds-x-end : goal.slice_bounds-x-end
slice_bounds-x-end c =
    let place : Places c.args.p 4 (length c.args.area.now) = places c.well_formed.0.1 tt c.requires.place in
    (place).within

pub overflow_add-y : goal.overflow_add-y
overflow_add-y c =
    let partner : Places c.args.z 4 (length c.args.area.now) = places c.well_formed.0.1 tt c.requires.partner in
    (partner).end

pub offset_bounds-area-z : goal.offset_bounds-area-z
offset_bounds-area-z c =
    let partner : Places c.args.z 4 (length c.args.area.now) = places c.well_formed.0.1 tt c.requires.partner in
    (partner).start.bytes

pub slice_bounds-y-count : goal.slice_bounds-y-count
slice_bounds-y-count c =
    let partner : Places c.args.z 4 (length c.args.area.now) = places c.well_formed.0.1 tt c.requires.partner in
    (partner).ordered

pub slice_bounds-y-start : goal.slice_bounds-y-start
slice_bounds-y-start c =
    let partner : Places c.args.z 4 (length c.args.area.now) = places c.well_formed.0.1 tt c.requires.partner in
    (partner).ordered

pub slice_bounds-y-end : goal.slice_bounds-y-end
slice_bounds-y-end c =
    let partner : Places c.args.z 4 (length c.args.area.now) = places c.well_formed.0.1 tt c.requires.partner in
    (partner).within

pub pair-x0-requires : goal.pair-x0-requires
pair-x0-requires c =
    four_pair c.requires 0 (lit< tt)

pub pair-x1-requires : goal.pair-x1-requires
pair-x1-requires c =
    four_pair c.requires 1 (lit< tt)

pub pair-x2-requires : goal.pair-x2-requires
pair-x2-requires c =
    four_pair c.requires 2 (lit< tt)

pub pair-x3-requires : goal.pair-x3-requires
pair-x3-requires c =
    four_pair c.requires 3 (lit< tt)

pub put_four-requires : goal.put_four-requires
put_four-requires c =
    c.requires.room

pub returns : goal.returns
returns c =
    four_written c.requires
    c.pair-x0.ensures c.pair-x1.ensures c.pair-x2.ensures c.pair-x3.ensures
    c.put_four.ensures

pub shape_of-area : goal.shape_of-area
shape_of-area c =
    (returns c).long

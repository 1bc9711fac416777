-- `four_votes::vote_four` meets its contract: the four votes are taken before the first is added. Assumes nothing.
use lib.Dec.{lit<}
use lib.ListN.{length}
use Rattle.area.specs.Numbers.{stored}
use Rattle.projections.proofs.FourParts.{four_pair}
use Rattle.four_votes.proofs.FourCasts.{Rooms, Casts, vote_rooms, decoded_lt, casts, first_adds, room_two, second_adds, four_voted}
use Rattle.four_votes.proofs.vote_four.Goals as goal

pub overflow_mul-c : goal.overflow_mul-c
overflow_mul-c c =
    let rooms : Rooms c.args.n c.args.q c.args.p c.args.z (length c.args.area.now) = vote_rooms c.requires c.well_formed.0.1 in
    (rooms).four

pub overflow_add-c : goal.overflow_add-c
overflow_add-c c =
    let rooms : Rooms c.args.n c.args.q c.args.p c.args.z (length c.args.area.now) = vote_rooms c.requires c.well_formed.0.1 in
    (rooms).decoded.start.index

pub overflow_add-d : goal.overflow_add-d
overflow_add-d c =
    let rooms : Rooms c.args.n c.args.q c.args.p c.args.z (length c.args.area.now) = vote_rooms c.requires c.well_formed.0.1 in
    (rooms).decoded.end

pub offset_bounds-area-c : goal.offset_bounds-area-c
offset_bounds-area-c c =
    let rooms : Rooms c.args.n c.args.q c.args.p c.args.z (length c.args.area.now) = vote_rooms c.requires c.well_formed.0.1 in
    (rooms).decoded.start.bytes

pub slice_bounds-d-count : goal.slice_bounds-d-count
slice_bounds-d-count c =
    let rooms : Rooms c.args.n c.args.q c.args.p c.args.z (length c.args.area.now) = vote_rooms c.requires c.well_formed.0.1 in
    (rooms).decoded.ordered

pub slice_bounds-d-start : goal.slice_bounds-d-start
slice_bounds-d-start c =
    let rooms : Rooms c.args.n c.args.q c.args.p c.args.z (length c.args.area.now) = vote_rooms c.requires c.well_formed.0.1 in
    (rooms).decoded.ordered

pub slice_bounds-d-end : goal.slice_bounds-d-end
slice_bounds-d-end c =
    let rooms : Rooms c.args.n c.args.q c.args.p c.args.z (length c.args.area.now) = vote_rooms c.requires c.well_formed.0.1 in
    (rooms).decoded.within

pub overflow_add-x : goal.overflow_add-x
overflow_add-x c =
    let rooms : Rooms c.args.n c.args.q c.args.p c.args.z (length c.args.area.now) = vote_rooms c.requires c.well_formed.0.1 in
    (rooms).place.end

pub offset_bounds-area-p : goal.offset_bounds-area-p
offset_bounds-area-p c =
    let rooms : Rooms c.args.n c.args.q c.args.p c.args.z (length c.args.area.now) = vote_rooms c.requires c.well_formed.0.1 in
    (rooms).place.start.bytes

pub slice_bounds-x-count : goal.slice_bounds-x-count
slice_bounds-x-count c =
    let rooms : Rooms c.args.n c.args.q c.args.p c.args.z (length c.args.area.now) = vote_rooms c.requires c.well_formed.0.1 in
    (rooms).place.ordered

pub slice_bounds-x-start : goal.slice_bounds-x-start
slice_bounds-x-start c =
    let rooms : Rooms c.args.n c.args.q c.args.p c.args.z (length c.args.area.now) = vote_rooms c.requires c.well_formed.0.1 in
    (rooms).place.ordered

pub slice_bounds-x-end : goal.slice_bounds-x-end
slice_bounds-x-end c =
    let rooms : Rooms c.args.n c.args.q c.args.p c.args.z (length c.args.area.now) = vote_rooms c.requires c.well_formed.0.1 in
    (rooms).place.within

pub overflow_add-y : goal.overflow_add-y
overflow_add-y c =
    let rooms : Rooms c.args.n c.args.q c.args.p c.args.z (length c.args.area.now) = vote_rooms c.requires c.well_formed.0.1 in
    (rooms).partner.end

pub offset_bounds-area-z : goal.offset_bounds-area-z
offset_bounds-area-z c =
    let rooms : Rooms c.args.n c.args.q c.args.p c.args.z (length c.args.area.now) = vote_rooms c.requires c.well_formed.0.1 in
    (rooms).partner.start.bytes

pub slice_bounds-y-count : goal.slice_bounds-y-count
slice_bounds-y-count c =
    let rooms : Rooms c.args.n c.args.q c.args.p c.args.z (length c.args.area.now) = vote_rooms c.requires c.well_formed.0.1 in
    (rooms).partner.ordered

pub slice_bounds-y-start : goal.slice_bounds-y-start
slice_bounds-y-start c =
    let rooms : Rooms c.args.n c.args.q c.args.p c.args.z (length c.args.area.now) = vote_rooms c.requires c.well_formed.0.1 in
    (rooms).partner.ordered

pub slice_bounds-y-end : goal.slice_bounds-y-end
slice_bounds-y-end c =
    let rooms : Rooms c.args.n c.args.q c.args.p c.args.z (length c.args.area.now) = vote_rooms c.requires c.well_formed.0.1 in
    (rooms).partner.within

pub vote-v0-requires : goal.vote-v0-requires
vote-v0-requires c =
    record { bit_pair = four_pair c.requires.bits 0 (lit< tt); i_in_bounds = decoded_lt c.requires 0 (lit< tt) }

pub vote-v1-requires : goal.vote-v1-requires
vote-v1-requires c =
    record { bit_pair = four_pair c.requires.bits 1 (lit< tt); i_in_bounds = decoded_lt c.requires 1 (lit< tt) }

pub vote-v2-requires : goal.vote-v2-requires
vote-v2-requires c =
    record { bit_pair = four_pair c.requires.bits 2 (lit< tt); i_in_bounds = decoded_lt c.requires 2 (lit< tt) }

pub vote-v3-requires : goal.vote-v3-requires
vote-v3-requires c =
    record { bit_pair = four_pair c.requires.bits 3 (lit< tt); i_in_bounds = decoded_lt c.requires 3 (lit< tt) }

pub overflow_mul-r : goal.overflow_mul-r
overflow_mul-r c =
    let rooms : Rooms c.args.n c.args.q c.args.p c.args.z (length c.args.area.now) = vote_rooms c.requires c.well_formed.0.1 in
    (rooms).twice

pub overflow_add-r : goal.overflow_add-r
overflow_add-r c =
    let rooms : Rooms c.args.n c.args.q c.args.p c.args.z (length c.args.area.now) = vote_rooms c.requires c.well_formed.0.1 in
    (rooms).one.start.index

pub overflow_add-r-2 : goal.overflow_add-r-2
overflow_add-r-2 c =
    let rooms : Rooms c.args.n c.args.q c.args.p c.args.z (length c.args.area.now) = vote_rooms c.requires c.well_formed.0.1 in
    (rooms).one.end

pub offset_bounds-area-r : goal.offset_bounds-area-r
offset_bounds-area-r c =
    let rooms : Rooms c.args.n c.args.q c.args.p c.args.z (length c.args.area.now) = vote_rooms c.requires c.well_formed.0.1 in
    (rooms).one.start.bytes

pub slice_bounds-add_four-count : goal.slice_bounds-add_four-count
slice_bounds-add_four-count c =
    let rooms : Rooms c.args.n c.args.q c.args.p c.args.z (length c.args.area.now) = vote_rooms c.requires c.well_formed.0.1 in
    (rooms).one.ordered

pub slice_bounds-add_four-start : goal.slice_bounds-add_four-start
slice_bounds-add_four-start c =
    let rooms : Rooms c.args.n c.args.q c.args.p c.args.z (length c.args.area.now) = vote_rooms c.requires c.well_formed.0.1 in
    (rooms).one.ordered

pub slice_bounds-add_four-end : goal.slice_bounds-add_four-end
slice_bounds-add_four-end c =
    let rooms : Rooms c.args.n c.args.q c.args.p c.args.z (length c.args.area.now) = vote_rooms c.requires c.well_formed.0.1 in
    (rooms).one.within

pub add_four-requires : goal.add_four-requires
add_four-requires c =
    let cast : Casts c.args.n c.args.q c.args.p c.args.z c.args.l c.args.area.now
    (stored c.vote-v0.result) (stored c.vote-v1.result) (stored c.vote-v2.result) (stored c.vote-v3.result) = casts c.requires c.vote-v0.ensures c.vote-v1.ensures c.vote-v2.ensures c.vote-v3.ensures in
    first_adds (cast)

pub overflow_mul-s : goal.overflow_mul-s
overflow_mul-s c =
    let rooms : Rooms c.args.n c.args.q c.args.p c.args.z (length c.args.area.now) = vote_rooms c.requires c.well_formed.0.1 in
    (rooms).twice

pub overflow_add-s : goal.overflow_add-s
overflow_add-s c =
    let rooms : Rooms c.args.n c.args.q c.args.p c.args.z (length c.args.area.now) = vote_rooms c.requires c.well_formed.0.1 in
    (rooms).two.start.index

pub overflow_add-s-2 : goal.overflow_add-s-2
overflow_add-s-2 c =
    let rooms : Rooms c.args.n c.args.q c.args.p c.args.z (length c.args.area.now) = vote_rooms c.requires c.well_formed.0.1 in
    (rooms).two.end

pub offset_bounds-area-s : goal.offset_bounds-area-s
offset_bounds-area-s c =
    let rooms : Rooms c.args.n c.args.q c.args.p c.args.z (length c.args.area.now) = vote_rooms c.requires c.well_formed.0.1 in
    (rooms).two.start.bytes

pub slice_bounds-add_four-count-2 : goal.slice_bounds-add_four-count-2
slice_bounds-add_four-count-2 c =
    let rooms : Rooms c.args.n c.args.q c.args.p c.args.z (length c.args.area.now) = vote_rooms c.requires c.well_formed.0.1 in
    (rooms).two.ordered

pub slice_bounds-add_four-start-2 : goal.slice_bounds-add_four-start-2
slice_bounds-add_four-start-2 c =
    let rooms : Rooms c.args.n c.args.q c.args.p c.args.z (length c.args.area.now) = vote_rooms c.requires c.well_formed.0.1 in
    (rooms).two.ordered

pub slice_bounds-add_four-end-2 : goal.slice_bounds-add_four-end-2
slice_bounds-add_four-end-2 c =
    let cast : Casts c.args.n c.args.q c.args.p c.args.z c.args.l c.args.area.now
    (stored c.vote-v0.result) (stored c.vote-v1.result) (stored c.vote-v2.result) (stored c.vote-v3.result) = casts c.requires c.vote-v0.ensures c.vote-v1.ensures c.vote-v2.ensures c.vote-v3.ensures in
    room_two (cast) c.add_four.ensures

pub add_four-requires-2 : goal.add_four-requires-2
add_four-requires-2 c =
    let cast : Casts c.args.n c.args.q c.args.p c.args.z c.args.l c.args.area.now
    (stored c.vote-v0.result) (stored c.vote-v1.result) (stored c.vote-v2.result) (stored c.vote-v3.result) = casts c.requires c.vote-v0.ensures c.vote-v1.ensures c.vote-v2.ensures c.vote-v3.ensures in
    second_adds (cast) c.add_four.ensures

pub returns : goal.returns
returns c =
    let cast : Casts c.args.n c.args.q c.args.p c.args.z c.args.l c.args.area.now
    (stored c.vote-v0.result) (stored c.vote-v1.result) (stored c.vote-v2.result) (stored c.vote-v3.result) = casts c.requires c.vote-v0.ensures c.vote-v1.ensures c.vote-v2.ensures c.vote-v3.ensures in
    four_voted (cast) c.add_four.ensures c.add_four-2.ensures

pub shape_of-area : goal.shape_of-area
shape_of-area c =
    (returns c).long

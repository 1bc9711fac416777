-- `cosets::vote_each` meets its contract: a turn adds the vote of one coset at both its members. Assumes nothing.
use native.Mathlib.Omega.{arith}
use Rattle.direction.proofs.Members.{number_le, direction_lt}
use Rattle.cosets.specs.SetBelow.{set_none, set_all}
use Rattle.cosets.proofs.VoteLoops.{turn_of, two_within, one_fits, two_fits, voted_more}
use Rattle.cosets.proofs.vote_each.Goals as goal

pub highest_bit-h-requires : goal.highest_bit-h-requires
highest_bit-h-requires c =
    (c.requires.projects.direction.some, direction_lt c.requires.projects.direction)

pub loop-q-init : goal.loop-q-init
loop-q-init c = set_none _ _ _ _

pub insert_zero-p-requires : goal.insert_zero-p-requires
insert_zero-p-requires c =
    (omega arith, omega (arith, number_le c.requires.projects.direction))

pub overflow_add-area-in-loop-q : goal.overflow_add-area-in-loop-q
overflow_add-area-in-loop-q c = one_fits (turn_of c.requires.projects c.requires.tally c.requires.in_projection c.size-n.ensures c.highest_bit-h.ensures.0 c.insert_zero-p.ensures.0 (omega arith) c.loop-q.invariant)

pub slice_copy_out-area-in-loop-q : goal.slice_copy_out-area-in-loop-q
slice_copy_out-area-in-loop-q c = two_within (turn_of c.requires.projects c.requires.tally c.requires.in_projection c.size-n.ensures c.highest_bit-h.ensures.0 c.insert_zero-p.ensures.0 (omega arith) c.loop-q.invariant) _

pub bounds-area-n-in-loop-q : goal.bounds-area-n-in-loop-q
bounds-area-n-in-loop-q c = two_within (turn_of c.requires.projects c.requires.tally c.requires.in_projection c.size-n.ensures c.highest_bit-h.ensures.0 c.insert_zero-p.ensures.0 (omega arith) c.loop-q.invariant) _

pub overflow_add-area-in-loop-q-3 : goal.overflow_add-area-in-loop-q-3
overflow_add-area-in-loop-q-3 c = two_fits (turn_of c.requires.projects c.requires.tally c.requires.in_projection c.size-n.ensures c.highest_bit-h.ensures.0 c.insert_zero-p.ensures.0 (omega arith) c.loop-q.invariant)

pub loop-q-preserved : goal.loop-q-preserved
loop-q-preserved c = voted_more (turn_of c.requires.projects c.requires.tally c.requires.in_projection c.size-n.ensures c.highest_bit-h.ensures.0 c.insert_zero-p.ensures.0 (omega arith) c.loop-q.invariant)

pub returns : goal.returns
returns c =
    set_all c.requires.projects.direction c.loop-q.invariant (omega arith)

-- `value_steps::share` meets its contract: a turn adds at both members of one coset. Assumes nothing.
use native.Mathlib.Omega.{arith}
use Rattle.direction.proofs.Members.{number_le, direction_lt}
use Rattle.cosets.specs.SetBelow.{set_none, set_all}
use Rattle.value_steps.proofs.ShareTurns.{turn_of, first_asks, second_asks, share_more}
use Rattle.value_steps.proofs.share.Goals as goal

pub highest_bit-h-requires : goal.highest_bit-h-requires
highest_bit-h-requires c =
    (c.requires.projects.direction.some, direction_lt c.requires.projects.direction)

pub loop-q-init : goal.loop-q-init
loop-q-init c =
    (omega arith, set_none _ _ _ _)

pub insert_zero-p-requires : goal.insert_zero-p-requires
insert_zero-p-requires c =
    (omega arith, omega (arith, number_le c.requires.projects.direction))

pub hear-requires : goal.hear-requires
hear-requires c =
    first_asks (turn_of c.requires.projects c.requires.sums c.size-n.ensures (omega arith) c.highest_bit-h.ensures.0 c.insert_zero-p.ensures.0 c.loop-q.invariant.1)

pub hear-requires-in-loop-q : goal.hear-requires-in-loop-q
hear-requires-in-loop-q c =
    second_asks (turn_of c.requires.projects c.requires.sums c.size-n.ensures (omega arith) c.highest_bit-h.ensures.0 c.insert_zero-p.ensures.0 c.loop-q.invariant.1) c.hear.ensures

pub loop-q-smaller : goal.loop-q-smaller
loop-q-smaller c =
    let t = turn_of c.requires.projects c.requires.sums c.size-n.ensures (omega arith) c.highest_bit-h.ensures.0 c.insert_zero-p.ensures.0 c.loop-q.invariant.1 in
    omega (arith, t.coset.number)

pub loop-q-preserved : goal.loop-q-preserved
loop-q-preserved c =
    let t = turn_of c.requires.projects c.requires.sums c.size-n.ensures (omega arith) c.highest_bit-h.ensures.0 c.insert_zero-p.ensures.0 c.loop-q.invariant.1 in
    (omega (arith, t.coset.number), share_more t c.hear.ensures c.hear-in-loop-q.ensures)

pub shape_of-area : goal.shape_of-area
shape_of-area c =
    c.loop-q.invariant.1.long

pub returns : goal.returns
returns c =
    set_all c.requires.projects.direction c.loop-q.invariant.1 (omega arith)

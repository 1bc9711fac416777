-- `value_steps::quads::project_four` meets its contract: a turn makes the entries q to q + 3 of the four runs. Assumes nothing.
use native.Mathlib.Omega.{arith}
use lib.Dec.{lit<}
use Rattle.direction.proofs.Members.{number_le, direction_lt}
use Rattle.projections.specs.FourLaws.{pow_whole}
use Rattle.value_steps.proofs.FourJoins.{four_join, join_asks, joining_none, joining_more, joining_next, joining_all}
use Rattle.value_steps.proofs.quads.project_four.Goals as goal

pub highest_bit-h-requires : goal.highest_bit-h-requires
highest_bit-h-requires c =
    (c.requires.direction.some, direction_lt c.requires.direction)

pub loop-j-init : goal.loop-j-init
loop-j-init c =
    joining_none _ _ _

pub insert_zero-p-requires : goal.insert_zero-p-requires
insert_zero-p-requires c =
    (omega (arith, c.highest_bit-h.ensures.1), omega (arith, number_le c.requires.direction))

pub join_four-requires : goal.join_four-requires
join_four-requires c =
    let t = four_join c.requires c.size-n.ensures c.highest_bit-h.ensures.0 (omega arith) (omega arith) c.insert_zero-p.ensures.0 in
    join_asks t 0 (lit< tt) c.loop-j.invariant

pub join_four-requires-in-loop-j : goal.join_four-requires-in-loop-j
join_four-requires-in-loop-j c =
    let t = four_join c.requires c.size-n.ensures c.highest_bit-h.ensures.0 (omega arith) (omega arith) c.insert_zero-p.ensures.0 in
    let one = joining_more t 0 (lit< tt) c.loop-j.invariant c.join_four.ensures in
    join_asks t 1 (lit< tt) one

pub join_four-requires-in-loop-j-2 : goal.join_four-requires-in-loop-j-2
join_four-requires-in-loop-j-2 c =
    let t = four_join c.requires c.size-n.ensures c.highest_bit-h.ensures.0 (omega arith) (omega arith) c.insert_zero-p.ensures.0 in
    let one = joining_more t 0 (lit< tt) c.loop-j.invariant c.join_four.ensures in
    let two = joining_more t 1 (lit< tt) one c.join_four-in-loop-j.ensures in
    join_asks t 2 (lit< tt) two

pub join_four-requires-in-loop-j-3 : goal.join_four-requires-in-loop-j-3
join_four-requires-in-loop-j-3 c =
    let t = four_join c.requires c.size-n.ensures c.highest_bit-h.ensures.0 (omega arith) (omega arith) c.insert_zero-p.ensures.0 in
    let one = joining_more t 0 (lit< tt) c.loop-j.invariant c.join_four.ensures in
    let two = joining_more t 1 (lit< tt) one c.join_four-in-loop-j.ensures in
    let three = joining_more t 2 (lit< tt) two c.join_four-in-loop-j-2.ensures in
    join_asks t 3 (lit< tt) three

pub loop-j-preserved : goal.loop-j-preserved
loop-j-preserved c =
    let t = four_join c.requires c.size-n.ensures c.highest_bit-h.ensures.0 (omega arith) (omega arith) c.insert_zero-p.ensures.0 in
    let one = joining_more t 0 (lit< tt) c.loop-j.invariant c.join_four.ensures in
    let two = joining_more t 1 (lit< tt) one c.join_four-in-loop-j.ensures in
    let three = joining_more t 2 (lit< tt) two c.join_four-in-loop-j-2.ensures in
    let four = joining_more t 3 (lit< tt) three c.join_four-in-loop-j-3.ensures in
    joining_next four (omega arith)

pub returns : goal.returns
returns c =
    joining_all c.loop-j.invariant (omega (arith, pow_whole c.args.m c.requires.blocks))

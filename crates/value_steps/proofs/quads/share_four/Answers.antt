-- `value_steps::quads::share_four` meets its contract: a turn adds at both members of four cosets of each direction. Assumes nothing.
use mathlib.Core.Path.{ap}
use native.Mathlib.Omega.{arith}
use Rattle.direction.proofs.Members.{number_le, direction_lt}
use Rattle.value_steps.specs.Shares.{voices_of}
use Rattle.value_steps.proofs.FourShareTurns.{four_share, first_asks, second_asks, share_none, share_more, share_all}
use Rattle.value_steps.proofs.quads.share_four.Goals as goal

pub highest_bit-h-requires : goal.highest_bit-h-requires
highest_bit-h-requires g c =
    (c.requires.projects_four.direction.some, direction_lt c.requires.projects_four.direction)

pub loop-j-init : goal.loop-j-init
loop-j-init g c =
    share_none _ _ _ _

pub insert_zero-p-requires : goal.insert_zero-p-requires
insert_zero-p-requires g c =
    (omega (arith, c.highest_bit-h.ensures.1), omega (arith, number_le c.requires.projects_four.direction))

pub hear_four-requires : goal.hear_four-requires
hear_four-requires g c =
    first_asks (four_share c.requires.projects_four c.requires.sums c.size-n.ensures c.highest_bit-h.ensures.0 (omega arith) c.insert_zero-p.ensures.0 c.loop-j.invariant)

pub hear_four-requires-in-loop-j : goal.hear_four-requires-in-loop-j
hear_four-requires-in-loop-j g c =
    second_asks (four_share c.requires.projects_four c.requires.sums c.size-n.ensures c.highest_bit-h.ensures.0 (omega arith) c.insert_zero-p.ensures.0 c.loop-j.invariant) c.hear_four.ensures

pub loop-j-preserved : goal.loop-j-preserved
loop-j-preserved g c =
    share_more (four_share c.requires.projects_four c.requires.sums c.size-n.ensures c.highest_bit-h.ensures.0 (omega arith) c.insert_zero-p.ensures.0 c.loop-j.invariant) c.hear_four.ensures c.hear_four-in-loop-j.ensures (omega arith)

pub returns : goal.returns
returns g c =
    share_all c.requires.projects_four c.loop-j.invariant c.size-n.ensures (omega arith) (ap voices_of c.speakers-speak.ensures)

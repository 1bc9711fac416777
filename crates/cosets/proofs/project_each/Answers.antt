-- `cosets::project_each` meets its contract: a turn writes the sum of the bits of one coset's members. Assumes nothing.
use native.Mathlib.Omega.{arith}
use Rattle.words.specs.Written.{written_none, written_more, written_to}
use Rattle.direction.proofs.Members.{Members, members, number_le, direction_lt}
use Rattle.cosets.proofs.Turns.{pair_value}
use Rattle.cosets.proofs.project_each.Goals as goal

pub highest_bit-h-requires : goal.highest_bit-h-requires
highest_bit-h-requires c =
    (c.requires.direction.some, direction_lt c.requires.direction)

pub loop-q-init : goal.loop-q-init
loop-q-init c = written_none _ _ _ _

pub insert_zero-p-requires : goal.insert_zero-p-requires
insert_zero-p-requires c =
    (omega arith, omega (arith, number_le c.requires.direction))

pub offset_bounds-area-p-in-loop-q : goal.offset_bounds-area-p-in-loop-q
offset_bounds-area-p-in-loop-q c =
    let coset : Members c.args.m c.args.b c.loop-q.q c.insert_zero-p.result = members c.requires.direction (omega arith) c.highest_bit-h.ensures.0 c.insert_zero-p.ensures.0 in
    record { fits = omega (arith, (coset).partner) }

pub slice_copy_out-area-in-loop-q : goal.slice_copy_out-area-in-loop-q
slice_copy_out-area-in-loop-q c =
    let coset : Members c.args.m c.args.b c.loop-q.q c.insert_zero-p.result = members c.requires.direction (omega arith) c.highest_bit-h.ensures.0 c.insert_zero-p.ensures.0 in
    omega (arith, (coset).partner)

pub loop-q-preserved : goal.loop-q-preserved
loop-q-preserved c =
    let coset : Members c.args.m c.args.b c.loop-q.q c.insert_zero-p.result = members c.requires.direction (omega arith) c.highest_bit-h.ensures.0 c.insert_zero-p.ensures.0 in
    let l = c.loop-q in
    written_more l.invariant _ _ (omega arith) (omega arith) (pair_value c.requires (coset) l.area (λ j k. l.invariant.below j (omega arith)))

pub returns : goal.returns
returns c =
    written_to c.loop-q.invariant _ (omega arith)

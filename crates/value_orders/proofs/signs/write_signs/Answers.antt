-- `value_orders::signs::write_signs` meets its contract: 16 places by their bits, and each turn of the loop writes as many again. Assumes nothing.
use Prim.Native.Nat.{◌+◌, ◌%◌, ◌≤◌, ◌<◌}
use mathlib.Core.Path.{◌≡◌, ◌∙◌}
use native.Mathlib.Omega.{arith}
use lib.Bits.{bit_and}
use lib.Count.{ones}
use lib.IntN.{pos, neg_ℤ}
use lib.ListN.{length}
use mir.Syntax.{w32}
use mir.Val.{to_z}
use Rattle.words.specs.Parts.{front_length}
use Rattle.words.specs.Sum.{tabulate}
use Rattle.area.specs.Area.{IsBit}
use Rattle.area.proofs.AreaLaws.{bit_back}
use Rattle.area.specs.Numbers.{stored}
use Rattle.affine.specs.Affine.{affine_at}
use Rattle.value_orders.specs.DoublingLaws.{affine_bits, affine_signs, front_bits, size_bits, doubled_front, doubled_all, doubled_long, more_room, doubles, doubled_more, turn_none, turn_some}
use Rattle.value_orders.proofs.signs.write_signs.Goals as goal
use Rattle.value_orders.proofs.signs.write_signs.Goals.{then-u-h-eq0, else-u-h-eq0}

-- ---- fewer than 16 places
pub write_affine-requires : goal.write_affine-requires
write_affine-requires c =
    let asks : IsBit (stored c.args.s) × (c.args.u < 1024) = (rw (bit_back c.requires.0) c.requires.0, c.requires.1) in
    asks

pub to_signs-requires : goal.to_signs-requires
to_signs-requires c =
    let a = c.args in
    affine_bits a.u (stored a.s) (length a.part.now) c.write_affine.ensures

pub returns-then-n-lt16 : goal.returns-then-n-lt16
returns-then-n-lt16 c =
    rw (bit_back c.requires.0) at
    (affine_signs c.args.u (stored c.args.s) (length c.args.part.now) c.write_affine.ensures c.to_signs.ensures)

pub write_affine-requires-2 : goal.write_affine-requires-2
write_affine-requires-2 c =
    let asks : IsBit (stored c.args.s) × (c.args.u < 1024) = (rw (bit_back c.requires.0) c.requires.0, c.requires.1) in
    asks

pub slice_bounds-to_signs-end : goal.slice_bounds-to_signs-end
slice_bounds-to_signs-end c =
    let room : 16 ≤ length c.args.part.now = omega arith in
    let bits : let a = c.args in
    c.write_affine-2.new.a ≡ tabulate 16 (affine_at a.u (stored a.s)) = rw (front_length 16 c.args.part.now (room)) at c.write_affine-2.ensures in
    let a = c.args in
    omega (arith, room, size_bits a.u (stored a.s) a.part.now (room) (bits))

pub to_signs-requires-2 : goal.to_signs-requires-2
to_signs-requires-2 c =
    let room : 16 ≤ length c.args.part.now = omega arith in
    let bits : let a = c.args in
    c.write_affine-2.new.a ≡ tabulate 16 (affine_at a.u (stored a.s)) = rw (front_length 16 c.args.part.now (room)) at c.write_affine-2.ensures in
    let a = c.args in
    affine_bits a.u (stored a.s) 16 (front_bits a.u (stored a.s) a.part.now (room) (bits))

pub loop-h-init : goal.loop-h-init
loop-h-init c =
    let room : 16 ≤ length c.args.part.now = omega arith in
    let bits : let a = c.args in
    c.write_affine-2.new.a ≡ tabulate 16 (affine_at a.u (stored a.s)) = rw (front_length 16 c.args.part.now (room)) at c.write_affine-2.ensures in
    let a = c.args in
    let s = stored a.s in (
      omega arith,
      doubled_front a.u s a.part.now (room) (bits)
          (affine_signs a.u s 16 (front_bits a.u s a.part.now (room) (bits)) c.to_signs-2.ensures),
    )

pub repeat_signs-requires : goal.repeat_signs-requires
repeat_signs-requires c =
    let more : c.loop-h.h + c.loop-h.h ≤ length c.args.part.now = more_room c.loop-h.invariant.1 c.requires.2 (omega arith) in
    let turn_is : to_z w32 c.if-u-h-eq0.t-bits ≡ neg_ℤ (pos (ones (bit_and c.args.u c.loop-h.h) % 2)) = let d = c.loop-h.invariant.1 in
    elim c.if-u-h-eq0.branch [
      | then-u-h-eq0 w ↦ w.t-is ∙ turn_none c.args.u c.loop-h.h w.if-u-h-eq0.true
      | else-u-h-eq0 w ↦ w.t-is ∙ turn_some d.exponent c.args.u d.half w.if-u-h-eq0.false
    ] in
    doubles c.loop-h.invariant.1 (more) (turn_is)

pub overflow_add-h : goal.overflow_add-h
overflow_add-h c =
    let more : c.loop-h.h + c.loop-h.h ≤ length c.args.part.now = more_room c.loop-h.invariant.1 c.requires.2 (omega arith) in
    omega (arith, more)

pub loop-h-preserved : goal.loop-h-preserved
loop-h-preserved c =
    let more : c.loop-h.h + c.loop-h.h ≤ length c.args.part.now = more_room c.loop-h.invariant.1 c.requires.2 (omega arith) in
    let turn_is : to_z w32 c.if-u-h-eq0.t-bits ≡ neg_ℤ (pos (ones (bit_and c.args.u c.loop-h.h) % 2)) = let d = c.loop-h.invariant.1 in
    elim c.if-u-h-eq0.branch [
      | then-u-h-eq0 w ↦ w.t-is ∙ turn_none c.args.u c.loop-h.h w.if-u-h-eq0.true
      | else-u-h-eq0 w ↦ w.t-is ∙ turn_some d.exponent c.args.u d.half w.if-u-h-eq0.false
    ] in
    (omega arith, doubled_more c.loop-h.invariant.1 (more) (turn_is) c.repeat_signs.ensures)

pub shape_of-part : goal.shape_of-part
shape_of-part c =
    doubled_long c.loop-h.invariant.1

pub returns : goal.returns
returns c =
    rw (bit_back c.requires.0) at (doubled_all c.loop-h.invariant.1 (omega arith))

-- `affine::write_affine` meets its contract: four places by parity, four more, eight more, and each turn of the loop writes one block of 16.
-- Assumes nothing.
use Prim.Native.Nat.{◌+◌, ◌*◌, ◌≤◌}
use mathlib.Core.Path.{◌≡◌, refl}
use native.Mathlib.Omega.{arith}
use borrow.Author.Tests.{eqb-false}
use lib.ListN.{length}
use borrow.Rule.Slice.PartMut.{put_mid}
use Rattle.words.specs.Parts.{front_length}
use Rattle.area.proofs.AreaLaws.{bit_back}
use Rattle.area.specs.Numbers.{stored}
use Rattle.affine.specs.Affine.{Repeats}
use Rattle.affine.specs.Blocks.{first_half, second_half, both_halves, Affine, affine_front, affine_all, repeats, affine_more}
use Rattle.affine.proofs.write_affine.Goals as goal

pub shape_of-a-then-n-ne0 : goal.shape_of-a-then-n-ne0
shape_of-a-then-n-ne0 c = c.by_place.auto.a

pub repeat_four-requires : goal.repeat_four-requires
repeat_four-requires c =
    let four : let s = c.args in
    Affine s.u (stored s.s) (length s.a.now) 4 (put_mid 0 4 s.a.now c.by_place-2.new.a) = let a = c.args.a.now in
    let l : 4 ≤ length a = omega (arith, eqb-false) in
    affine_front a l (rw (front_length 4 a l) at c.by_place-2.ensures) in
    repeats (four) c.parity.ensures (omega arith) (omega (arith, eqb-false))

pub repeat_eight-requires : goal.repeat_eight-requires
repeat_eight-requires c =
    let four : let s = c.args in
    Affine s.u (stored s.s) (length s.a.now) 4 (put_mid 0 4 s.a.now c.by_place-2.new.a) = let a = c.args.a.now in
    let l : 4 ≤ length a = omega (arith, eqb-false) in
    affine_front a l (rw (front_length 4 a l) at c.by_place-2.ensures) in
    let eight : let s = c.args in
    Affine s.u (stored s.s) (length s.a.now) 8 c.repeat_four.new.a = affine_more (four) c.parity.ensures 2 refl (omega arith) c.repeat_four.ensures in
    repeats (eight) c.parity-2.ensures (omega arith) (omega (arith, eqb-false))

pub loop-k-init : goal.loop-k-init
loop-k-init c =
    let four : let s = c.args in
    Affine s.u (stored s.s) (length s.a.now) 4 (put_mid 0 4 s.a.now c.by_place-2.new.a) = let a = c.args.a.now in
    let l : 4 ≤ length a = omega (arith, eqb-false) in
    affine_front a l (rw (front_length 4 a l) at c.by_place-2.ensures) in
    let eight : let s = c.args in
    Affine s.u (stored s.s) (length s.a.now) 8 c.repeat_four.new.a = affine_more (four) c.parity.ensures 2 refl (omega arith) c.repeat_four.ensures in
    affine_more (eight) c.parity-2.ensures 3 refl (omega arith) c.repeat_eight.ensures

pub repeat_eight-requires-in-loop-k : goal.repeat_eight-requires-in-loop-k
repeat_eight-requires-in-loop-k c =
    let block : let l = c.loop-k in Repeats 16 0 (16 * l.k) (stored c.parity-t.result) l.a = repeats c.loop-k.invariant c.parity-t.ensures (omega arith) (omega arith) in
    first_half 8 (block)

pub repeat_eight-requires-in-loop-k-2 : goal.repeat_eight-requires-in-loop-k-2
repeat_eight-requires-in-loop-k-2 c =
    let block : let l = c.loop-k in Repeats 16 0 (16 * l.k) (stored c.parity-t.result) l.a = repeats c.loop-k.invariant c.parity-t.ensures (omega arith) (omega arith) in
    second_half 8 (block) c.repeat_eight-in-loop-k.ensures

pub loop-k-preserved : goal.loop-k-preserved
loop-k-preserved c =
    let l = c.loop-k in
    let block : Repeats 16 0 (16 * l.k) (stored c.parity-t.result) l.a = repeats l.invariant c.parity-t.ensures (omega arith) (omega arith) in
    let w = both_halves 8 (block) c.repeat_eight-in-loop-k.ensures c.repeat_eight-in-loop-k-2.ensures in
    let e : 16 * l.k + 16 ≡ 16 * (l.k + 1) = omega arith in
    rw e at (affine_more l.invariant c.parity-t.ensures 4 (omega arith) (omega arith) w)

pub shape_of-a : goal.shape_of-a
shape_of-a c = c.loop-k.invariant.long

pub returns : goal.returns
returns c = rw (bit_back c.requires.0) at (affine_all c.loop-k.invariant (omega (arith, eqb-false)))

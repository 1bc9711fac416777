-- `octets::write_affine` meets its contract: each turn of the loop writes one block of 16. Assumes nothing.
use Prim.Native.Nat.{ℕ, ◌+◌, ◌≤◌}
use mathlib.Core.Path.{refl, ap, ◌∙◌}
use native.Mathlib.Omega.{arith}
use lib.Bits.{and_le_l}
use lib.ListN.{length}
use lib.IntN.{ℤ, nat_abs}
use Rattle.words.specs.Ones.{affine_bit}
use Rattle.words.specs.Sum.{tabulate}
use Rattle.words.specs.Written.{Written, written_none, written_to, written_all}
use Rattle.area.proofs.AreaLaws.{bit_back}
use Rattle.area.specs.Numbers.{stored}
use Rattle.octets.specs.OctetLaws.{AffineEight, affine_first, affine_eight, eight_more}
use Rattle.octets.proofs.write_affine.Goals as goal

pub first_eight-x-requires : goal.first_eight-x-requires
first_eight-x-requires c =
    let b = c.requires.0 in rw (bit_back b) b

pub parity-requires : goal.parity-requires
parity-requires c =
    omega (arith, and_le_l c.args.u 8)

pub add_bit-y-requires : goal.add_bit-y-requires
add_bit-y-requires c =
    omega (arith, c.parity.ensures)

pub loop-b-init : goal.loop-b-init
loop-b-init c =
    (refl, omega arith, refl, written_none _ _ _ _)

-- ---- the loop
pub parity-t-requires : goal.parity-t-requires
parity-t-requires c =
    omega (arith, and_le_l c.args.u c.loop-b.b)

pub add_bit-requires : goal.add_bit-requires
add_bit-requires c =
    omega (arith, c.parity-t.ensures)

pub write_eight-requires : goal.write_eight-requires
write_eight-requires c =
    let room : c.loop-b.b + 16 ≤ length c.args.out.now = omega (arith, c.loop-b.invariant, c.loop-b-test.true, c.requires.2) in
    omega (arith, room)

pub add_bit-requires-in-loop-b : goal.add_bit-requires-in-loop-b
add_bit-requires-in-loop-b c =
    omega (arith, c.parity-t.ensures)

pub write_eight-requires-in-loop-b : goal.write_eight-requires-in-loop-b
write_eight-requires-in-loop-b c =
    let room : c.loop-b.b + 16 ≤ length c.args.out.now = omega (arith, c.loop-b.invariant, c.loop-b-test.true, c.requires.2) in
    omega (arith, room, c.write_eight.ensures.long)

pub loop-b-preserved : goal.loop-b-preserved
loop-b-preserved c =
    let constant : ℕ = nat_abs (stored c.args.s) in
    let first : AffineEight c.args.u (constant) 0 c.first_eight-x.result = affine_first c.first_eight-x.ensures in
    let second : AffineEight c.args.u (constant) 8 c.add_bit-y.result = affine_eight 3 8 0 8 refl (omega arith) refl c.parity.ensures (first) c.add_bit-y.ensures in
    let room : c.loop-b.b + 16 ≤ length c.args.out.now = omega (arith, c.loop-b.invariant, c.loop-b-test.true, c.requires.2) in
    let half : Written 0 0 (c.loop-b.b + 8) (affine_bit c.args.u (constant)) c.args.out.now c.write_eight.new.out = let b = c.loop-b.b in
    let t = c.parity-t.ensures in
    eight_more (affine_eight 4 b 0 b c.loop-b.invariant.0 (omega arith) (omega arith) t (first) c.add_bit.ensures)
    c.loop-b.invariant.3 c.write_eight.ensures in
    let b = c.loop-b.b in
    let t = c.parity-t.ensures in
    let e = affine_eight 4 b 8 (b + 8) c.loop-b.invariant.0 (omega arith) refl t (second) c.add_bit-in-loop-b.ensures in (
      omega (arith, c.loop-b.invariant.0),
      room,
      c.write_eight-in-loop-b.ensures.long ∙ c.write_eight.ensures.long ∙ c.loop-b.invariant.2,
      written_to (eight_more e (half) c.write_eight-in-loop-b.ensures) (b + 16) (omega arith),
    )

pub returns : goal.returns
returns c =
    let n = length c.args.out.now in
    written_all (written_to c.loop-b.invariant.3 n (omega arith)) refl
    ∙ ap (λ (z : ℤ). tabulate n (affine_bit c.args.u (nat_abs z))) (bit_back c.requires.0)

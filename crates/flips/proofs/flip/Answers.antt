-- `flips::flip` meets its contract: the loop flips the places passed. Assumes nothing.
use Prim.Native.Nat.{ℕ, ◌+◌, ◌-◌, ◌<◌}
use mathlib.Core.Path.{◌≡◌, refl, sym, ◌∙◌}
use mathlib.Core.List.{List}
use native.Mathlib.Omega.{arith}
use lib.Bits.{bit_xor}
use lib.IntN.{ℤ, pos, nat_abs}
use mir.Syntax.{w32}
use mir.Val.{to_z, of_z}
use Rattle.words.specs.Sum.{total}
use Rattle.words.specs.Written.{written_none, written_more}
use Rattle.area.specs.Area.{at, Bits}
use Rattle.area.proofs.AreaLaws.{bit-word_of}
use Rattle.area.specs.Numbers.{stored, stored-eq}
use Rattle.rule.specs.Reading.{flipped}
use Rattle.flips.specs.Flips.{flip_of}
use Rattle.words.specs.SumLaws.{all_more}
use Rattle.flips.proofs.Flipped.{still, flips, stays, flipped_bit}
use Rattle.flips.proofs.flip.Goals as goal
use Rattle.flips.proofs.flip.Goals.{then-voters-area, else-voters-area}

pub loop-p-init : goal.loop-p-init
unfolding total
loop-p-init c =
    (omega arith, written_none _ _ _ _, refl)

pub loop-p-preserved : goal.loop-p-preserved
loop-p-preserved c =
    let bit-read : let l = c.loop-p in
    at l.area l.p ≡ at c.args.area.now l.p = let l = c.loop-p in l.invariant.1.above l.p (omega arith) in
    let votes : let l = c.loop-p in
    stored (at l.area (c.args.n + l.p)) ≡ pos (nat_abs (at c.args.area.now (c.args.n + l.p))) = let l = c.loop-p in
    let under : l.p < c.args.n = c.loop-p-test.true in
    let t = c.requires.tally in
    rw (l.invariant.1.above (c.args.n + l.p) (omega arith)) (stored-eq _ (omega (arith, t.few l.p under)) ∙ t.whole l.p under) in
    let flip_is : let l = c.loop-p in
    c.if-voters-area.f-bits ≡ flip_of c.args.n c.args.abstained c.args.area.now l.p = let l = c.loop-p in
    elim c.if-voters-area.branch [
      | then-voters-area w ↦ (let one : c.if-voters-area.f-bits ≡ 1 = omega arith in one ∙ sym (flips c.args.n c.args.abstained c.args.area.now l.p (rw votes at w.if-voters-area.true)))
      | else-voters-area w ↦ (let zero : c.if-voters-area.f-bits ≡ 0 = omega arith in zero ∙ sym (stays c.args.n c.args.abstained c.args.area.now l.p (rw votes at w.if-voters-area.false)))
    ] in
    let l = c.loop-p in
    let n : ℕ = c.args.n in
    let xs : List ℤ = c.args.area.now in
    let under : l.p < n = c.loop-p-test.true in
    let b : Bits n xs = c.requires.bits in
    let more = written_more l.invariant.1 l.p (to_z w32 (bit_xor (of_z w32 (at l.area l.p)) c.if-voters-area.f-bits)) (omega arith) (omega arith)
    (rw (bit-read, flip_is, bit-word_of n xs l.p under)
    (flipped_bit (b.bits l.p under) (flipped (nat_abs (at xs (n + l.p))) (n - 1) c.args.abstained))) in (
      omega arith,
      more,
      rw (l.invariant.2, flip_is) (all_more l.p (still n c.args.abstained xs) _ refl),
    )

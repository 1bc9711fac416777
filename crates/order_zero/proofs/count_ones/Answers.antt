-- `order_zero::count_ones` meets its contract: the loop counts the ones so far. Assumes nothing.
use Prim.Native.Nat.{◌<◌}
use mathlib.Core.Path.{◌≡◌, refl}
use native.Mathlib.Omega.{arith}
use lib.IntN.{ℤ, nat_abs}
use mir.Syntax.{w32}
use mir.Val.{of_z}
use Rattle.std.proofs.Common.{sym, ap, ◌∙◌, subst, get_or-take, length-take-le, take, pos}
use Rattle.words.specs.SumLaws.{sum_more}
use Rattle.words.specs.Sum.{total}
use Rattle.words.specs.Word.{bit}
use Rattle.area.specs.Area.{at, IsBit, zero_bit, one_bit, word_of}
use Rattle.area.proofs.AreaLaws.{bit-word_of}
use Rattle.order_zero.proofs.count_ones.Goals as goal
use Rattle.order_zero.proofs.count_ones.Goals.{then-x-ne0, else-x-ne0}

-- a bit against 0, as the code tests it
bit_some : {z : ℤ} → IsBit z → (of_z w32 z ≡ 0 → ⊥) → nat_abs z ≡ 1
bit_some zero_bit f = absurd (f refl)
bit_some one_bit f = refl

bit_none : {z : ℤ} → IsBit z → of_z w32 z ≡ 0 → nat_abs z ≡ 0
bit_none zero_bit e = refl
bit_none one_bit e = absurd (omega arith)

pub loop-x-init : goal.loop-x-init
unfolding total
loop-x-init c =
    (refl, omega arith)

pub loop-x-preserved : goal.loop-x-preserved
loop-x-preserved c =
    let l = c.loop-x in
    let n = c.args.n in
    let xs = c.args.area.now in
    let under : l.x-index < n = omega (arith, length-take-le n xs c.requires.1.room) in
    let taken = get_or-take n xs l.x-index (pos 0) under in
    let b : IsBit (at (take n xs) l.x-index) = subst IsBit (sym taken) (c.requires.1.bits l.x-index under) in
    let here : bit (word_of n xs) l.x-index ≡ nat_abs (at (take n xs) l.x-index) = bit-word_of n xs l.x-index under ∙ ap nat_abs (sym taken) in
    let more = sum_more l.x-index (bit (word_of n xs)) in
    elim c.if-x-ne0.branch [
      | then-x-ne0 w ↦ (omega (arith, here, more, bit_some b w.if-x-ne0.true), omega arith)
      | else-x-ne0 w ↦ (omega (arith, here, more, bit_none b w.if-x-ne0.false), omega arith)
    ]

-- `area::store` meets its contract. Assumes nothing.
use native.Mathlib.Omega.{arith}
use mathlib.Core.Path.{◌≡◌, refl, sym, ap, subst, ◌∙◌}
use lib.ListN.{length}
use lib.Dec.{T}
use lib.Signed.{non_neg}
use lib.IntN.{ℤ, pos, nat_abs}
use mir.Syntax.{w32}
use mir.Val.{to_z, of_z}
use Rattle.words.specs.SumLaws.{tabulate_ext, tabulate-get_or}
use Rattle.words.specs.Written.{written_none, written_more, written_to, written_all}
use Rattle.area.specs.Area.{at, IsBit, word_of}
use Rattle.area.proofs.AreaLaws.{bit_is, bit_lt, bit_back, bit-word_of, length-word_of}
use Rattle.area.proofs.store.Goals as goal

pub loop-i-init : goal.loop-i-init
loop-i-init c =
    (refl, written_none _ _ _ _)

pub overflow_cast-out : goal.overflow_cast-out
overflow_cast-out c =
    let l = c.loop-i in
    let b : IsBit (at c.args.area.now l.i) = c.requires.bits l.i (omega arith) in
    let e : to_z w32 (of_z w32 (at c.args.area.now l.i)) ≡ pos (nat_abs (at c.args.area.now l.i)) = bit_back b ∙ bit_is b in
    (subst (λ (z : ℤ). T (non_neg z)) (sym e) tt, record { fits = omega (arith, ap nat_abs e, bit_lt b) })

pub loop-i-preserved : goal.loop-i-preserved
loop-i-preserved c =
    let l = c.loop-i in
    let b : IsBit (at c.args.area.now l.i) = c.requires.bits l.i (omega arith) in
    let w = written_more l.invariant.1 l.i _ (omega arith) (omega arith) (ap nat_abs (bit_back b)) in
    (w.long, w)

pub returns : goal.returns
returns c =
    let n = length c.args.out.now in
    let w = written_to c.loop-i.invariant.1 n (omega arith) in
    written_all w refl
    ∙ tabulate_ext n _ _ (λ p l. sym (bit-word_of n c.args.area.now p l))
    ∙ tabulate-get_or n (word_of n c.args.area.now) 0 (length-word_of n c.args.area.now c.requires.room)

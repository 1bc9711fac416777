-- `value_orders::signs::repeat_signs` meets its contract. Assumes nothing.
use mathlib.Core.Path.{refl}
use native.Mathlib.Omega.{arith}
use Rattle.words.specs.Written.{written_none, written_more, written_to}
use Rattle.value_orders.specs.DoublingLaws.{sign_back, sign_turned}
use Rattle.value_orders.proofs.signs.repeat_signs.Goals as goal

pub loop-i-init : goal.loop-i-init
loop-i-init c =
    (omega arith, refl, written_none _ _ _ _)

pub loop-i-preserved : goal.loop-i-preserved
loop-i-preserved c =
    let l = c.loop-i in
    let i = l.i in
    let e = sign_turned (c.requires.signs i (omega arith)) c.requires.turn (l.invariant.2.below i (omega arith)) in
    let w = written_more l.invariant.2 _ _ refl (omega arith) e in
    (omega arith, w.long, w)

pub returns : goal.returns
returns c =
    rw (sign_back c.requires.turn) at (written_to c.loop-i.invariant.2 c.args.h (omega arith))

-- `messages::spread` meets its contract: the loop writes out from its front, and j is the rank of the mask. Assumes nothing.
use Prim.Native.Nat.{◌<◌}
use mathlib.Core.Path.{◌≡◌, refl, ap, ◌∙◌}
use native.Mathlib.Omega.{arith}
use lib.ListN.{length}
use Rattle.words.specs.Word.{bit}
use Rattle.words.specs.Written.{written_none, written_more, written_to, written_all}
use Rattle.code.specs.Code.{degree, rank}
use Rattle.messages.proofs.Masks.{rank-zero, rank_more, rank_same, rank_below, spread_here, spread_none}
use Rattle.messages.proofs.spread.Goals as goal
use Rattle.messages.proofs.spread.Goals.{then-from-r, else-from-r}

pub loop-a-init : goal.loop-a-init
loop-a-init c =
    (rank-zero _, refl, written_none _ _ _ _)

pub bounds-message-j : goal.bounds-message-j
bounds-message-j c =
    let here : c.from.result ≡ degree c.loop-a.a = c.from.ensures ∙ c.requires.0.each _ (omega arith) in
    let place : rank c.args.r c.loop-a.a
    < rank c.args.r (length c.args.out.now) = rank_below _ _ _ (here) _ (omega arith) c.if-from-r.true in
    omega (arith, place)

pub overflow_add-j : goal.overflow_add-j
overflow_add-j c =
    let here : c.from.result ≡ degree c.loop-a.a = c.from.ensures ∙ c.requires.0.each _ (omega arith) in
    let place : rank c.args.r c.loop-a.a
    < rank c.args.r (length c.args.out.now) = rank_below _ _ _ (here) _ (omega arith) c.if-from-r.true in
    omega (arith, place)

pub loop-a-preserved : goal.loop-a-preserved
loop-a-preserved c =
    let here : c.from.result ≡ degree c.loop-a.a = c.from.ensures ∙ c.requires.0.each _ (omega arith) in
    let a = c.args in
    let l = c.loop-a in
    let h = here in
    elim c.if-from-r.branch [
      | then-from-r w ↦
          let v = written_more l.invariant.2 l.a _ (omega arith) (omega arith) (ap (bit a.message.now) l.invariant.0 ∙ spread_here a.r l.a _ h a.message.now w.if-from-r.true) in
          (omega (arith, rank_more a.r l.a _ h w.if-from-r.true), ap length w.out-is ∙ v.long, rw w.out-is v)
      | else-from-r w ↦
          let v = written_more l.invariant.2 l.a 0 (omega arith) (omega arith) (spread_none a.r l.a _ h a.message.now w.if-from-r.false) in
          (omega (arith, rank_same a.r l.a _ h w.if-from-r.false), ap length w.out-is ∙ v.long, rw w.out-is v)
    ]

pub returns : goal.returns
returns c =
    written_all (written_to c.loop-a.invariant.2 (length c.args.out.now) (omega arith)) refl

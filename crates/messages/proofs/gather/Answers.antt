-- `messages::gather` meets its contract: the masks below a fill out up to the rank of a. Assumes nothing.
use Prim.Native.Nat.{◌<◌}
use mathlib.Core.Path.{◌≡◌, refl, sym, ap, ◌∙◌}
use native.Mathlib.Omega.{arith}
use lib.ListN.{length}
use Rattle.words.specs.Word.{bit}
use Rattle.words.specs.SumLaws.{tabulate-get_or}
use Rattle.words.specs.Written.{written_none, written_more, written_to, written_all}
use Rattle.code.specs.Code.{degree, rank, gather}
use Rattle.code.proofs.MessageLaws.{length-gather}
use Rattle.messages.proofs.Masks.{rank-zero, rank_more, rank_same, rank_below, gather_here}
use Rattle.messages.proofs.gather.Goals as goal
use Rattle.messages.proofs.gather.Goals.{then-from-r, else-from-r}

pub loop-a-init : goal.loop-a-init
loop-a-init c =
    (rank-zero _, refl, written_none _ _ _ _)

pub bounds-out-j : goal.bounds-out-j
bounds-out-j c =
    let here : c.from.result ≡ degree c.loop-a.a = c.from.ensures ∙ c.requires.0.each _ (omega arith) in
    let place : rank c.args.r c.loop-a.a
    < rank c.args.r (length c.args.t.now) = rank_below _ _ _ (here) _ (omega arith) c.if-from-r.true in
    omega (arith, place)

pub overflow_add-j : goal.overflow_add-j
overflow_add-j c =
    let here : c.from.result ≡ degree c.loop-a.a = c.from.ensures ∙ c.requires.0.each _ (omega arith) in
    let place : rank c.args.r c.loop-a.a
    < rank c.args.r (length c.args.t.now) = rank_below _ _ _ (here) _ (omega arith) c.if-from-r.true in
    omega (arith, place)

pub loop-a-preserved : goal.loop-a-preserved
loop-a-preserved c =
    let here : c.from.result ≡ degree c.loop-a.a = c.from.ensures ∙ c.requires.0.each _ (omega arith) in
    let a = c.args in
    let l = c.loop-a in
    let h = here in
    let n = length a.t.now in
    let b : l.a < n = omega arith in
    elim c.if-from-r.branch [
      | then-from-r w ↦
          let v = written_more l.invariant.2 l.j _ (omega arith) (omega (arith, c.requires.1, rank_below a.r l.a _ h n b w.if-from-r.true))
          (gather_here a.r l.a _ h n b (bit a.t.now) w.if-from-r.true ∙ ap (bit (gather a.r (bit a.t.now) n)) (sym l.invariant.0)) in
          (omega (arith, rank_more a.r l.a _ h w.if-from-r.true), ap length w.out-is ∙ v.long, rw (w.out-is, w.j-is) v)
      | else-from-r w ↦
          (omega (arith, rank_same a.r l.a _ h w.if-from-r.false), ap length w.out-is ∙ l.invariant.1, rw (w.out-is, w.j-is) l.invariant.2)
    ]

pub returns : goal.returns
returns c =
    let t = c.args.t.now in
    let l = c.loop-a in
    let k : rank c.args.r l.a ≡ rank c.args.r (length t) = ap (rank c.args.r) (omega arith) in
    written_all (written_to l.invariant.2 (length c.args.out.now) (omega (arith, l.invariant.0, c.requires.1))) refl
    ∙ tabulate-get_or _ (gather c.args.r (bit t) (length t)) 0 (length-gather c.args.r (bit t) (length t) ∙ sym c.requires.1)

use Rattle.std.proofs.Common.{arith, sym, refl, length, subst, ◌∙◌, ap₂, ◌≡◌, ◌+◌}
use Rattle.std.proofs.lemmas.List.{get_or_read_under}
use Rattle.words.specs.Butterflies.{entry}
use Rattle.words.specs.ButterflyLaws.{pairs_none, pairs_more, pairs_all, pair_room}
use Rattle.transforms.proofs.butterfly.Goals as goal

pub loop-i-init : goal.loop-i-init
loop-i-init g c = pairs_none _ _ _

pub pair-x-requires : goal.pair-x-requires
pair-x-requires g c =
    let R = g.K.Pairing.rule in
    let p = pair_room R c.loop-i.invariant (omega arith) c.requires.room in
    let x : c.index-a-i.result ≡ entry R c.loop-i.a c.loop-i.i = get_or_read_under _ _ (length c.loop-i.a) _ _ c.index-a-i.is (omega arith) refl in
    let y : c.index-a-h.result ≡ entry R c.loop-i.a (c.args.h + c.loop-i.i) = get_or_read_under _ _ (length c.loop-i.a) _ _ c.index-a-h.is (omega arith) refl in
    (subst (R.Room 1) (sym x) p.0, subst (R.Room 1) (sym y) p.1)

pub loop-i-preserved : goal.loop-i-preserved
loop-i-preserved g c =
    let R = g.K.Pairing.rule in
    let x : c.index-a-i.result ≡ entry R c.loop-i.a c.loop-i.i = get_or_read_under _ _ (length c.loop-i.a) _ _ c.index-a-i.is (omega arith) refl in
    let y : c.index-a-h.result ≡ entry R c.loop-i.a (c.args.h + c.loop-i.i) = get_or_read_under _ _ (length c.loop-i.a) _ _ c.index-a-h.is (omega arith) refl in
    pairs_more R c.loop-i.invariant (omega arith) c.requires.size _ _ (c.pair-x.ensures.0 ∙ ap₂ R.low x y) (c.pair-x.ensures.1 ∙ ap₂ R.high x y)

pub returns : goal.returns
returns g c = pairs_all _ c.loop-i.invariant (omega arith) c.requires.size

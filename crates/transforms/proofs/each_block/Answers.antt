-- `transforms::each_block` meets its contract: a turn does one block. Assumes nothing.
use Rattle.std.proofs.Common.{length-take-le, length-drop, arith, ◌∙◌, refl, length, ◌+◌, ◌-◌, ◌≤◌, take, drop, rules}
use Rattle.words.specs.Blocks.{blocks_none, blocks_all}
use Rattle.transforms.proofs.EachBlockLaws.{passed_none, passed_more, block_within, each_turn, each_rest, each_lent}
use Rattle.transforms.specs.EachBlock.{Takes}
use Rattle.transforms.proofs.each_block.Goals as goal

pub loop-b-init : goal.loop-b-init
loop-b-init g c = (passed_none _ _, refl, λ change keep does. blocks_none _ _ _)

pub overflow_add-e : goal.overflow_add-e
overflow_add-e g c = omega (arith, block_within c.requires.whole c.loop-b.invariant.0 (omega arith))

pub slice_bounds-f-end : goal.slice_bounds-f-end
slice_bounds-f-end g c = omega (arith, block_within c.requires.whole c.loop-b.invariant.0 (omega arith))

pub f-requires : goal.f-requires
f-requires g c =
    let l = c.loop-b in
    let s = c.args.s in
    let given : Takes g.F.Fn c.args.f (take (l.b + s - l.b) (drop l.b l.a)) = λ p e. c.requires.takes l.b (block_within c.requires.whole l.invariant.0 (omega arith)) p (e ∙ each_lent s l.b c.args.a.now l.a l.invariant.1) in
    search rules

pub loop-b-preserved : goal.loop-b-preserved
loop-b-preserved g c =
    let i = c.loop-b.invariant in
    let room : c.loop-b.b + c.args.s ≤ length c.args.a.now = block_within c.requires.whole i.0 (omega arith) in (
      passed_more c.requires.whole i.0 (omega arith),
      each_rest c.args.s c.loop-b.b c.args.a.now c.loop-b.a c.f.new.arg2 (omega arith) (c.f.auto.arg2 ∙ length-take-le _ _ (rw length-drop (omega arith))) i.1,
      λ change keep does. each_turn keep c.requires.whole (i.2 change keep does) (omega arith) (does _ _ c.f.ensures),
    )

pub returns : goal.returns
returns g c change keep does = blocks_all (c.loop-b.invariant.2 change keep does) (omega arith)

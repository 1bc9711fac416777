-- `affine_test::repeats` meets its contract: same is the test of the places passed. Assumes nothing.
use Rattle.std.proofs.Common.{Bool, ◌&&◌, ap, ap₂, ◌∙◌, eqb, arith}
use Rattle.code.specs.FirstOrder.{repeats_below, repeats}
use Rattle.words.specs.SumLaws.{all_none, all_more}
use Rattle.affine_test.specs.Marks.{mark_at}
use Rattle.affine_test.proofs.repeats.Goals as goal

pub loop-i-init : goal.loop-i-init
loop-i-init g c = all_none _

pub loop-i-preserved : goal.loop-i-preserved
loop-i-preserved g c =
    let l = c.loop-i in
    ap (λ (z : Bool). l.same && z) (ap₂ eqb c.added.ensures c.added-t.ensures) ∙ all_more l.i _ l.same l.invariant

pub returns : goal.returns
unfolding repeats
returns g c =
    c.loop-i.invariant ∙ ap (repeats_below (mark_at g.M.Mark.bit_of c.args.area.now) c.args.h) (omega arith)

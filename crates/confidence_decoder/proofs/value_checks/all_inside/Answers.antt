-- `confidence_decoder::value_checks::all_inside` meets its contract: all is the test of the values passed. Assumes nothing.
use Prim.Native.Nat.{ℕ}
use mathlib.Core.Path.{ap, ◌∙◌}
use mathlib.Core.Bool.{Bool, ◌&&◌}
use native.Mathlib.Omega.{arith}
use Rattle.words.specs.Sum.{all_below}
use Rattle.words.specs.SumLaws.{all_none, all_more}
use Rattle.area.specs.Area.{at}
use Rattle.confidence_decoder.specs.Checked.{is_inside}
use Rattle.confidence_decoder.specs.Numbers.{inside_test}
use Rattle.confidence_decoder.proofs.value_checks.all_inside.Goals as goal

pub loop-x-init : goal.loop-x-init
loop-x-init c =
    all_none _

pub loop-x-preserved : goal.loop-x-preserved
loop-x-preserved c =
    let l = c.loop-x in
    ap (λ (y : Bool). l.all && y) (inside_test (at c.args.values.now l.x-index) (omega arith)) ∙ all_more l.x-index _ l.all l.invariant

pub returns : goal.returns
returns c =
    c.loop-x.invariant ∙ ap (λ (n : ℕ). all_below n (is_inside c.args.values.now)) (omega arith)

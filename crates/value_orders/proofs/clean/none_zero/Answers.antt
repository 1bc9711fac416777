-- `value_orders::clean::none_zero` meets its contract. Assumes nothing.
use Prim.Native.Nat.{ℕ}
use mathlib.Core.Path.{ap, ◌∙◌}
use mathlib.Core.Bool.{Bool, not, ◌&&◌}
use native.Mathlib.Omega.{arith}
use Rattle.words.specs.Sum.{all_below}
use Rattle.words.specs.SumLaws.{all_none, all_more}
use Rattle.area.specs.Area.{at}
use Rattle.area.specs.Numbers.{fits_32}
use Rattle.value_orders.specs.Leaves.{is_some}
use Rattle.value_orders.specs.SignLaws.{zero_test}
use Rattle.value_orders.proofs.clean.none_zero.Goals as goal

pub loop-i-init : goal.loop-i-init
loop-i-init c =
    all_none _

pub loop-i-preserved : goal.loop-i-preserved
loop-i-preserved c =
    let l = c.loop-i in
    let z = at c.args.part.now l.i in
    let fits = fits_32 z (omega (arith, c.requires.small l.i (omega arith))) in
    ap (λ (y : Bool). l.some && not y) (zero_test z fits.sfits) ∙ all_more l.i _ l.some l.invariant

pub returns : goal.returns
returns c =
    c.loop-i.invariant ∙ ap (λ (n : ℕ). all_below n (is_some c.args.part.now)) (omega arith)

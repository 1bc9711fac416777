-- `value_orders::clean::last_level` meets its contract: same is the test of the places passed. Assumes nothing.
use Prim.Native.Nat.{ℕ, ◌+◌, ◌^◌, ◌<◌}
use mathlib.Core.Bool.{not}
use mathlib.Core.Path.{ap, ap₂, ◌∙◌}
use native.Mathlib.Omega.{arith}
use lib.Dec.{eqb}
use lib.Signed.{mag}
use Rattle.words.specs.Sum.{all_below}
use Rattle.words.specs.SumLaws.{all_none}
use Rattle.area.specs.Area.{at}
use Rattle.area.specs.Numbers.{fits_32}
use Rattle.value_orders.specs.SignLaws.{zero_test}
use Rattle.value_orders.specs.CleanLaws.{last_at, last_all, last_more}
use Rattle.value_orders.proofs.clean.last_level.Goals as goal

pub loop-i-init : goal.loop-i-init
loop-i-init c = all_none _

pub loop-i-preserved : goal.loop-i-preserved
loop-i-preserved c =
    let l = c.loop-i in
    let xs = c.args.part.now in
    let h = c.args.h in
    let fits : (p : ℕ) → p < h + h → mag (at xs p) < 2 ^ 31 = λ p m. (fits_32 (at xs p) (omega (arith, c.requires.1.small p m))).sfits in
    last_more xs h l.i l.same _ _ _ l.invariant (ap₂ eqb c.added.ensures c.added-t.ensures)
    (ap not (zero_test (at xs l.i) (fits l.i (omega arith))))
    (ap not (zero_test (at xs (h + l.i)) (fits (h + l.i) (omega arith))))

pub returns : goal.returns
returns c =
    let a = c.args in
    c.loop-i.invariant ∙ ap (λ (i : ℕ). all_below i (last_at a.part.now a.h)) (omega arith) ∙ last_all a.part.now a.h

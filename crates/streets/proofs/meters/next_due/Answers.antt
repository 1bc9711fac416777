-- `streets::meters::next_due` meets its contract. Assumes nothing.
use native.Mathlib.Nat.{le_refl}
use native.Mathlib.Omega.{arith}
use mathlib.Core.Path.{sym, ◌∙◌}
use borrow.Author.Count.{below_more}
use Rattle.streets.specs.MeterLaws.{due_found, due_missing}
use Rattle.streets.proofs.meters.next_due.Goals as goal

pub loop-i-init : goal.loop-i-init
loop-i-init c =
    (omega arith, λ q l. absurd (omega arith))

pub returns-then-waits : goal.returns-then-waits
returns-then-waits c =
    let l = c.loop-i in
    due_found _ _ _ (record { within = omega arith; before = l.invariant.1; found = λ z. sym c.waits.ensures ∙ c.if-waits.true }) (omega arith)

pub loop-i-preserved : goal.loop-i-preserved
loop-i-preserved c =
    (omega arith, below_more _ _ c.loop-i.invariant.1 (sym c.waits.ensures ∙ c.if-waits.false))

pub returns : goal.returns
returns c =
    due_missing _ _ _ (record { within = le_refl _; before = λ q l. c.loop-i.invariant.1 q (omega arith); found = λ z. absurd (omega arith) })

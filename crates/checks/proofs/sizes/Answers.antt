-- `checks::sizes` meets its contract. Assumes nothing.
use mathlib.Core.Path.{refl}
use native.Mathlib.Omega.{arith}
use borrow.Author.Tests.{eq-eqb, ne_eqb, le-leb, lt-leb}
use Rattle.refusals.specs.declared.Refusal.TheVariants.{InputLength, OutputLength, AreaLength}
use Rattle.refusals.proofs.CheckLaws.{no_more, fails, passes, refuses, all_pass}
use Rattle.checks.proofs.sizes.Goals as goal

pub returns-then-size-n : goal.returns-then-size-n
returns-then-size-n c =
    refuses InputLength refl (fails _ _ _ (ne_eqb c.args.size c.args.n c.if-size-n.true))

pub returns-then-room-n : goal.returns-then-room-n
returns-then-room-n c =
    let a = c.args in
    refuses OutputLength refl (passes _ _ _ (eq-eqb a.size a.n c.if-size-n.false) (fails _ _ _ (ne_eqb a.room a.n c.if-room-n.true)))

pub returns-then-area-least : goal.returns-then-area-least
returns-then-area-least c =
    let a = c.args in
    refuses AreaLength refl
    (passes _ _ _ (eq-eqb a.size a.n (omega arith)) (passes _ _ _ (eq-eqb a.room a.n (omega arith)) (fails _ _ _ (lt-leb a.least a.area (omega arith)))))

pub returns : goal.returns
returns c =
    let a = c.args in
    all_pass
    (passes _ _ _ (eq-eqb a.size a.n (omega arith)) (passes _ _ _ (eq-eqb a.room a.n (omega arith))
    (passes _ _ _ (le-leb a.least a.area (omega arith)) no_more)))

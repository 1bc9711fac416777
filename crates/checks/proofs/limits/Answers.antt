-- `checks::limits` meets its contract. Assumes nothing.
use mathlib.Core.Path.{refl}
use native.Mathlib.Omega.{arith}
use borrow.Author.Tests.{le-leb, lt-leb}
use Rattle.refusals.specs.declared.Refusal.TheVariants.{RoundLimit, LeafLimit}
use Rattle.refusals.proofs.CheckLaws.{no_more, fails, passes, refuses, all_pass}
use Rattle.checks.proofs.limits.Goals as goal

pub returns-then-rounds-lt1 : goal.returns-then-rounds-lt1
returns-then-rounds-lt1 c =
    refuses RoundLimit refl (fails _ _ _ (lt-leb 1 c.args.rounds (omega arith)))

pub returns-then-rounds-gt16 : goal.returns-then-rounds-gt16
returns-then-rounds-gt16 c =
    let a = c.args in
    refuses RoundLimit refl (passes _ _ _ (le-leb 1 a.rounds (omega arith)) (fails _ _ _ (lt-leb a.rounds 16 (omega arith))))

pub returns-then-leaves-lt1 : goal.returns-then-leaves-lt1
returns-then-leaves-lt1 c =
    let a = c.args in
    refuses LeafLimit refl
    (passes _ _ _ (le-leb 1 a.rounds (omega arith)) (passes _ _ _ (le-leb a.rounds 16 (omega arith)) (fails _ _ _ (lt-leb 1 a.leaves (omega arith)))))

pub returns-then-leaves-gt1000000 : goal.returns-then-leaves-gt1000000
returns-then-leaves-gt1000000 c =
    let a = c.args in
    refuses LeafLimit refl
    (passes _ _ _ (le-leb 1 a.rounds (omega arith)) (passes _ _ _ (le-leb a.rounds 16 (omega arith))
    (passes _ _ _ (le-leb 1 a.leaves (omega arith)) (fails _ _ _ (lt-leb a.leaves 1000000 (omega arith))))))

pub returns : goal.returns
returns c =
    let a = c.args in
    all_pass (passes _ _ _ (le-leb 1 a.rounds (omega arith)) (passes _ _ _ (le-leb a.rounds 16 (omega arith))
    (passes _ _ _ (le-leb 1 a.leaves (omega arith)) (passes _ _ _ (le-leb a.leaves 1000000 (omega arith)) no_more))))

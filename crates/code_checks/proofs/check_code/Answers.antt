-- `code_checks::check_code` meets its contract. Assumes nothing.
use mathlib.Core.Path.{refl}
use native.Mathlib.Omega.{arith}
use borrow.Author.Tests.{le-leb}
use Rattle.refusals.specs.declared.Refusal.TheVariants.{Exponent, Order}
use Rattle.refusals.proofs.CheckLaws.{exponent_low, exponent_high, order_high, passes, no_more, refuses, all_pass}
use Rattle.code_checks.proofs.check_code.Goals as goal

pub returns-then-m-lt1 : goal.returns-then-m-lt1
returns-then-m-lt1 c =
    refuses Exponent refl (exponent_low c.args.m c.args.r (omega arith))

pub returns-then-m-gt10 : goal.returns-then-m-gt10
returns-then-m-gt10 c =
    refuses Exponent refl (exponent_high c.args.m c.args.r (omega arith) (omega arith))

pub returns-then-m-r : goal.returns-then-m-r
returns-then-m-r c =
    let a = c.args in
    refuses Order refl (order_high a.m a.r (omega arith) (omega arith) (omega arith))

pub returns : goal.returns
returns c =
    let a = c.args in
    all_pass (passes _ _ _ (le-leb 1 a.m (omega arith)) (passes _ _ _ (le-leb a.m 10 (omega arith)) (passes _ _ _ (le-leb a.r a.m (omega arith)) no_more)))

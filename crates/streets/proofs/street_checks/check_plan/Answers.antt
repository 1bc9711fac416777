-- `streets::street_checks::check_plan` meets its contract: each return is a check that fails, or none. Assumes nothing.
use native.Mathlib.Omega.{arith}
use Rattle.streets.specs.CheckLaws.{many_meters, many_retries, no_meter, plan_passes}
use Rattle.streets.proofs.street_checks.check_plan.Goals as goal

pub returns-then-plan-lt1 : goal.returns-then-plan-lt1
returns-then-plan-lt1 c =
    no_meter c.args.plan (omega arith)

pub returns-then-plan-gt256 : goal.returns-then-plan-gt256
returns-then-plan-gt256 c =
    many_meters c.args.plan (omega arith) (omega arith)

pub returns-then-plan-gt15 : goal.returns-then-plan-gt15
returns-then-plan-gt15 c =
    many_retries c.args.plan (omega arith) (omega arith) (omega arith)

pub returns : goal.returns
returns c =
    plan_passes c.args.plan (omega arith) (omega arith) (omega arith)

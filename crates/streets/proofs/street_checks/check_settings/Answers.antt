-- `streets::street_checks::check_settings` meets its contract: 23 and 24, then the load's checks. Assumes nothing.
use mathlib.Core.Path.{refl}
use mathlib.Core.List.{[]}
use Rattle.refusals.proofs.CheckLaws.{err_is, goes_on, stops}
use Rattle.streets.proofs.street_checks.check_settings.Goals as goal

pub returns-in_err-check_plan : goal.returns-in_err-check_plan
returns-in_err-check_plan c =
    rw (err_is c.from_residual.ensures.1) (record { checked = stops _ [] refl c.check_plan.ensures c.in_err-check_plan.was; given = λ p e. absurd (cc) })

pub returns : goal.returns
returns c =
    record { checked = goes_on _ tt c.check_plan.ensures c.in_ok-check_plan.was c.check_start.ensures.checked; given = c.check_start.ensures.given }

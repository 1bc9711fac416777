-- `street_runs::check_run` meets its contract: the settings, then the buffers. Assumes nothing.
use mathlib.Core.Path.{refl, ap}
use mathlib.Core.List.{[]}
use Rattle.load.specs.Steps.{tested}
use Rattle.refusals.proofs.CheckLaws.{err_is, goes_on, stops}
use Rattle.street_runs.proofs.check_run.Goals as goal

pub returns-in_err-entry : goal.returns-in_err-entry
returns-in_err-entry c =
    rw (err_is c.from_residual.ensures.1) (stops _ [] refl c.check_settings.ensures.checked (ap tested c.in_err-entry.was))

pub check_room-requires : goal.check_room-requires
check_room-requires c =
    let e = c.check_settings.ensures.given _ c.in_ok-entry.was in
    (rw e at c.requires).limits refl

pub returns : goal.returns
returns c =
    let e = c.check_settings.ensures.given _ c.in_ok-entry.was in
    let settings = rw e at c.check_settings.ensures in
    rw e (goes_on _ tt settings.checked (ap tested c.in_ok-entry.was) c.check_room.ensures)

-- `street_runs::stepping::go_on` meets its contract: what the step shows, put into the run. Assumes nothing.
use mathlib.Core.Path.{refl, sym, ap, ◌∙◌}
use Rattle.std.specs.Prelude.{Ok}
use Rattle.streets.specs.State.{shown_as}
use Rattle.street_runs.specs.RunLaws.{gone, gone_sent, sent_fits}
use Rattle.street_runs.proofs.stepping.go_on.Goals as goal

pub put-requires : goal.put-requires
put-requires c =
    sent_fits _ _ _ c.requires _ (ap shown_as (sym (c.in-Ok.is ∙ ap Ok c.in-Some.is)) ∙ c.step_in-stepped.ensures.shown)

pub returns-in-Some : goal.returns-in-Some
returns-in-Some c =
    gone_sent _ _ _ c.requires c.step_in-stepped.ensures (c.in-Ok.is ∙ ap Ok c.in-Some.is) c.counted.ensures c.number.ensures c.put.ensures

pub returns-in-None : goal.returns-in-None
returns-in-None c =
    gone _ _ _ c.requires c.step_in-stepped.ensures (ap shown_as (c.in-Ok.is ∙ ap Ok c.in-None.is)) c.ended.ensures refl

pub returns-in-Err : goal.returns-in-Err
returns-in-Err c =
    gone _ _ _ c.requires c.step_in-stepped.ensures (ap shown_as c.in-Err.is) refl refl

-- `streets::street_steps::step_in` meets its contract: a refusal of the settings, nobody, or what sending gives. Assumes nothing.
use native.Mathlib.Omega.{arith}
use mathlib.Core.Path.{refl, sym, ap, ◌∙◌}
use Rattle.refusals.specs.Refusals.{answer_number}
use Rattle.load.specs.Steps.{tested}
use Rattle.tables.specs.Tables.{some}
use Rattle.streets.specs.CheckLaws.{settled}
use Rattle.streets.specs.StepLaws.{sender_within, steps_none, steps_refused, steps_sent}
use Rattle.streets.proofs.street_steps.step_in.Goals as goal

pub returns-in-Err : goal.returns-in-Err
returns-in-Err c =
    steps_refused _ _ _ _ (ap answer_number (ap tested (sym c.in-Err.is)) ∙ c.check_settings.ensures.checked.number) c.refuse.ensures

pub next_sender-requires : goal.next_sender-requires
next_sender-requires c =
    let passes = ap answer_number (ap tested (sym c.in-Ok.is)) ∙ c.check_settings.ensures.checked.number in
    (settled c.args.slot c.args.plan c.args.street.state (sym passes)).few

pub send_next-requires : goal.send_next-requires
send_next-requires c =
    let passes = ap answer_number (ap tested (sym c.in-Ok.is)) ∙ c.check_settings.ensures.checked.number in
    let e = c.check_settings.ensures.given _ c.in-Ok.is in
    let k = settled c.args.slot c.args.plan c.args.street.state (sym passes) in
    record {
      proper = rw e at c.requires;
      known = refl;
      within = omega (arith, k.few, sender_within _ _ (sym c.next_sender.ensures ∙ c.in-Some.is));
    }

pub returns-in-None : goal.returns-in-None
returns-in-None c =
    let passes = ap answer_number (ap tested (sym c.in-Ok.is)) ∙ c.check_settings.ensures.checked.number in
    steps_none _ _ _ passes (sym c.in-None.is ∙ c.next_sender.ensures)

pub returns-in-Some : goal.returns-in-Some
returns-in-Some c =
    let e = c.check_settings.ensures.given _ c.in-Ok.is in
    let start = rw e at c.check_settings.ensures in
    let passes = ap answer_number (ap tested (sym c.in-Ok.is)) ∙ start.checked.number in
    rw e (steps_sent (some c.in-Ok.entry) _ _ passes (sym c.in-Some.is ∙ c.next_sender.ensures) c.send_next.ensures)

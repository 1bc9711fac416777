-- `streets::meters::next_sender` meets its contract. Assumes nothing.
use mathlib.Core.Path.{refl}
use Rattle.streets.specs.MeterLaws.{last_turn, none_refused, sends_again, sends_now}
use Rattle.streets.proofs.meters.next_sender.Goals as goal

pub returns-in-Some : goal.returns-in-Some
returns-in-Some c =
    let f = c.next_due.ensures.first c.in-Some.meter c.in-Some.is in
    sends_now c.args.plan c.args.street f.0 f.1

pub returns-then-plan-street : goal.returns-then-plan-street
returns-then-plan-street c =
    last_turn _ _ refl (c.next_due.ensures.none c.in_default.is) c.if-plan-street.true

pub returns-in_err-meter : goal.returns-in_err-meter
returns-in_err-meter c =
    rw c.from_residual.ensures
    (none_refused c.args.plan c.args.street refl (c.next_due.ensures.none c.in_default.is) c.if-plan-street.false refl (c.in_err-meter.ensures.none refl))

pub returns : goal.returns
returns c =
    let f = c.in_ok-meter.ensures.first c.in_ok-meter.meter refl in
    sends_again c.args.plan c.args.street refl (c.next_due.ensures.none c.in_default.is) c.if-plan-street.false f.0 f.1

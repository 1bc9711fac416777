-- `streets::street_steps::send_next` meets its contract: 6, 7, or the block sent. Assumes nothing.
use mathlib.Core.Path.{sym, ap, ◌∙◌}
use Rattle.refusals.specs.Refusals.{answer_number}
use Rattle.tables.specs.Tables.{some}
use Rattle.streets.specs.CheckLaws.{roomy}
use Rattle.streets.specs.StepLaws.{room_refused, sent_leaves}
use Rattle.streets.proofs.street_steps.send_next.Goals as goal

pub returns-in-Err : goal.returns-in-Err
returns-in-Err c =
    room_refused _ _ _ _ _ _ (ap answer_number (sym c.in-Err.is) ∙ c.check_room.ensures.number) c.refuse.ensures

pub send-sent-requires : goal.send-sent-requires
send-sent-requires c =
    let r = roomy (some c.args.entry) _ _ (sym c.check_room.ensures.number ∙ ap answer_number c.in_default.is) in
    record { limits = c.requires.proper.limits c.requires.known; size = r.size; room = r.lent }

pub returns : goal.returns
returns c =
    sent_leaves _ _ _ _ (sym c.check_room.ensures.number ∙ ap answer_number c.in_default.is) c.send-sent.ensures c.sent_by.ensures

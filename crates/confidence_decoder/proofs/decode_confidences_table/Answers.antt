-- `confidence_decoder::decode_confidences_table` meets its contract. Assumes nothing.
use Rattle.refusals.proofs.CheckLaws.{err_is}
use Rattle.tables.specs.Slots.{given, not_given}
use Rattle.confidence_decoder.proofs.Calls.{entry_decodes, no_entry}
use Rattle.confidence_decoder.proofs.decode_confidences_table.Goals as goal

pub returns-in_err-p : goal.returns-in_err-p
returns-in_err-p g c =
    let a = c.args in
    let q = not_given c.look.result _ _ c.in_err-p.ensures.value in
    rw (err_is c.from_residual.ensures.1, q.1)
    (no_entry (g.P.Profiles.table a.profiles.now) a.number a.values.now a.out.now a.area.now c.look.ensures.0 q.0)

pub returns : goal.returns
returns g c =
    let a = c.args in
    let e = given c.look.result _ c.in_ok-p.p c.in_ok-p.ensures.value in
    entry_decodes (g.P.Profiles.table a.profiles.now) a.number a.values.now a.out.now a.area.now c.look.ensures.0 e c.decode_confidences.ensures

-- `table_decoder::decode_table` meets its contract. Assumes nothing.
use Rattle.refusals.proofs.CheckLaws.{err_is}
use Rattle.tables.specs.Slots.{given, not_given}
use Rattle.table_decoder.specs.TableLaws.{known_decodes, unknown_decodes}
use Rattle.table_decoder.proofs.decode_table.Goals as goal

pub returns-in_err-p : goal.returns-in_err-p
returns-in_err-p g c =
    let q = not_given c.look.result _ _ c.in_err-p.ensures.value in
    rw (err_is c.from_residual.ensures.1, q.1) (unknown_decodes (g.P.Profiles.table c.args.profiles.now) c.args.number c.look.ensures.0 q.0)

pub returns : goal.returns
returns g c =
    let e = given c.look.result _ c.in_ok-p.p c.in_ok-p.ensures.value in
    known_decodes (g.P.Profiles.table c.args.profiles.now) c.args.number c.look.ensures.0 e c.decode.ensures

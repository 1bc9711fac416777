-- `street_settings::take` meets its contract: each return is a case of the definition. Assumes nothing.
use Rattle.std.proofs.Common.{Ok, Some, ◌+◌, ap, arith, sym, ◌∙◌}
use Rattle.std.proofs.lemmas.Result.{err_from_is_err_and}
use Rattle.street_settings.specs.SettingLaws.{asks_number, asks_summary, bytes_equal, not_number, one_more, one_too_many}
use Rattle.street_settings.specs.declared.Settings.{Settings}
use Rattle.street_settings.proofs.take.Goals as goal

pub returns-then-eq : goal.returns-then-eq
returns-then-eq c = asks_summary _ _ (sym (c.if-eq.ensures ∙ bytes_equal c.args.text.now _ c.as_slice.ensures))

pub returns-in_err-v : goal.returns-in_err-v
returns-in_err-v c =
    let p = err_from_is_err_and c.from_residual.result c.from_residual.ensures.1 in
    let other = sym (bytes_equal c.args.text.now _ c.as_slice.ensures) ∙ sym c.if-eq.ensures in
    rw (p.1, p.2) (not_number c.args.so_far c.read_number.result c.in_err-v.field-0.0 c.in_err-v.ensures.ok_part c.in_err-v.ensures.value ∙ asks_number _ _ _ other c.read_number.ensures)

pub returns-then-so_far-gt4 : goal.returns-then-so_far-gt4
returns-then-so_far-gt4 c =
    let a = c.args.so_far in
    let other = sym (bytes_equal c.args.text.now _ c.as_slice.ensures) ∙ sym c.if-eq.ensures in
    one_too_many a c.in_ok-v.v (omega arith) ∙ asks_number a _ (Some c.in_ok-v.v) other (sym c.in_ok-v.ensures.ok_part ∙ c.read_number.ensures)

pub returns : goal.returns
returns c =
    let a = c.args.so_far in
    let other = sym (bytes_equal c.args.text.now _ c.as_slice.ensures) ∙ sym c.if-eq.ensures in
    ap (λ (s : Settings). Ok (record { settings = s; numbers = a.numbers + 1 })) c.with_number.ensures
    ∙ one_more a c.in_ok-v.v (omega arith) ∙ asks_number a _ (Some c.in_ok-v.v) other (sym c.in_ok-v.ensures.ok_part ∙ c.read_number.ensures)

-- `street_settings::read_number` meets its contract: each return is a case of the definition. Assumes nothing.
use Rattle.std.proofs.Common.{arith, sym, ◌∙◌}
use Rattle.street_settings.specs.SettingLaws.{a_number, digits_all, no_digits, no_number}
use Rattle.street_settings.proofs.read_number.Goals as goal

pub returns-then-s-eq0 : goal.returns-then-s-eq0
returns-then-s-eq0 c = no_digits _ (omega arith)

pub returns-then-not-all_digits : goal.returns-then-not-all_digits
returns-then-not-all_digits c = no_number _ (omega arith) (sym (digits_all c.args.s.now) ∙ sym c.all_digits.ensures ∙ c.if-not-all_digits.true)

pub value-requires : goal.value-requires
value-requires c = sym (digits_all c.args.s.now) ∙ sym c.all_digits.ensures ∙ c.if-not-all_digits.false

pub returns : goal.returns
returns c = c.value.ensures ∙ a_number _ (omega arith) (sym (digits_all c.args.s.now) ∙ sym c.all_digits.ensures ∙ c.if-not-all_digits.false)

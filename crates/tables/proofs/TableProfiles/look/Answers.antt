-- `tables::TableProfiles::look` meets its contract. Assumes nothing.
use mathlib.Core.Path.{sym, subst, ◌∙◌}
use native.Mathlib.Omega.{arith}
use Rattle.tables.specs.Slots.{Proper, above_count, above_31, no_limits, no_number, outside, slot_proper, there}
use Rattle.tables.proofs.TableProfiles.look.Goals as goal

pub returns-then-self-number : goal.returns-then-self-number
returns-then-self-number c =
    (above_count _ _ (omega arith), no_limits, no_number)

pub returns-then-number-gt31 : goal.returns-then-number-gt31
returns-then-number-gt31 c =
    (above_31 _ _ (omega arith) (omega arith), no_limits, no_number)

pub returns-then-not-in_limits : goal.returns-then-not-in_limits
returns-then-not-in_limits c =
    (outside _ _ (omega arith) (omega arith) (sym c.in_limits.ensures ∙ c.if-not-in_limits.true), no_limits, no_number)

pub returns : goal.returns
returns c =
    let e = there _ _ (omega arith) (omega arith) (sym c.in_limits.ensures ∙ c.if-not-in_limits.false) in
    (e, subst Proper (sym e) (slot_proper c.args.self.now c.args.number), λ _. omega arith)

-- `tables::StandardProfiles::look` meets its contract. Assumes nothing.
use mathlib.Core.Path.{sym, ap, subst, ◌∙◌}
use native.Mathlib.Omega.{arith}
use Rattle.tables.specs.Tables.{ours, some}
use Rattle.tables.specs.Slots.{Proper, no_limits, no_number, ours-none, ours_there, slot_proper}
use Rattle.tables.proofs.StandardProfiles.look.Goals as goal

pub returns-then-number-gt4 : goal.returns-then-number-gt4
returns-then-number-gt4 c =
    (sym (ours-none _ (omega arith)), no_limits, no_number)

pub returns : goal.returns
returns c =
    let e = ap some c.by_number.ensures ∙ sym (ours_there _ (omega arith)) in
    (e, subst Proper (sym e) (slot_proper ours c.args.number), λ _. omega arith)

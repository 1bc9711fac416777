-- `packing::by_table::pack_number` meets its contract. Assumes nothing.
use mathlib.Core.Path.{sym, ap, ◌∙◌}
use Rattle.refusals.specs.Refusals.{answer_number}
use Rattle.packing.proofs.by_table.pack_number.Goals as goal

pub returns-in-Err : goal.returns-in-Err
returns-in-Err c =
    c.number.ensures ∙ ap answer_number (sym c.in-Err.is)

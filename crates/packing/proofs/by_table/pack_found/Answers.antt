-- `packing::by_table::pack_found` meets its contract. Assumes nothing.
use Prim.Native.Nat.{ℕ}
use mathlib.Core.Path.{sym, ap, ◌∙◌}
use Rattle.std.specs.Prelude.{Ok}
use Rattle.capture.specs.Capture.{Found, answer_of}
use Rattle.packing.specs.ByTable.{pack_found}
use Rattle.packing.proofs.by_table.pack_found.Goals as goal

abbrev packed : Found → ℕ
packed f = pack_found (answer_of f)

pub returns-in-Err : goal.returns-in-Err
returns-in-Err c =
    rw (c.number.ensures, c.from-in-Err.ensures) (ap packed (sym c.in-Err.is))

pub returns-in-None : goal.returns-in-None
returns-in-None c =
    ap packed (sym (c.in-Ok.is ∙ ap Ok c.in-None.is))

pub returns-in-Some : goal.returns-in-Some
returns-in-Some c =
    rw c.from.ensures (ap packed (sym (c.in-Ok.is ∙ ap Ok c.in-Some.is)))

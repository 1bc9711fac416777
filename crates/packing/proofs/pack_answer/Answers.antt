-- `packing::pack_answer` meets its contract. Assumes nothing.
use Prim.Native.Nat.{ℕ}
use mathlib.Core.Path.{sym, ap, ap₂, ◌∙◌}
use Rattle.refusals.specs.Refusals.{answer_number, answer_place, Answer}
use Rattle.packing.specs.Packing.{pack}
use Rattle.packing.proofs.pack_answer.Goals as goal

abbrev packed : Answer → ℕ
packed a = pack (answer_number a) 0 0 0 (answer_place a)

pub returns-in-Ok : goal.returns-in-Ok
returns-in-Ok c =
    ap packed (sym c.in-Ok.is)

pub returns-in-Err : goal.returns-in-Err
returns-in-Err c =
    c.pack.ensures ∙ ap₂ (λ (n p : ℕ). pack n 0 0 0 p) c.number.ensures c.place.ensures
    ∙ ap packed (sym c.in-Err.is)

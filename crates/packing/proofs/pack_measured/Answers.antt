-- `packing::pack_measured` meets its contract. Assumes nothing.
use Prim.Native.Nat.{ℕ}
use mathlib.Core.Path.{sym, ap, ap₂, ◌∙◌}
use Rattle.packing.specs.Packing.{pack, pack_gap}
use Rattle.gap.specs.Calls.{measured_values, Measured}
use Rattle.packing.proofs.pack_measured.Goals as goal

abbrev packed : Measured → ℕ
packed a = pack_gap (measured_values a)

pub returns-in-Ok : goal.returns-in-Ok
returns-in-Ok c =
    c.pack.ensures ∙ ap packed (sym c.in-Ok.is)

pub returns-in-Err : goal.returns-in-Err
returns-in-Err c =
    c.pack-in-Err.ensures ∙ ap₂ (λ (n p : ℕ). pack n 0 0 0 p) c.number.ensures c.place.ensures
    ∙ ap packed (sym c.in-Err.is)

-- `packing::pack_decoded` meets its contract. Assumes nothing.
use Prim.Native.Nat.{ℕ}
use mathlib.Core.Path.{sym, ap, ap₂, ◌∙◌}
use Rattle.packing.specs.Packing.{pack, pack_values}
use Rattle.refusals.specs.Refusals.{Decoded}
use Rattle.rule.specs.Calls.{values_of, decoded_place}
use Rattle.packing.proofs.pack_decoded.Goals as goal

abbrev packed : Decoded → ℕ
packed d = pack_values (values_of d) (decoded_place d)

pub returns-in-Ok : goal.returns-in-Ok
returns-in-Ok c =
    c.pack.ensures ∙ ap packed (sym c.in-Ok.is)

pub returns-in-Err : goal.returns-in-Err
returns-in-Err c =
    c.pack-in-Err.ensures ∙ ap₂ (λ (n p : ℕ). pack n c.in-Err.refused.rounds c.in-Err.refused.leaves 0 p) c.number.ensures c.place.ensures
    ∙ ap packed (sym c.in-Err.is)

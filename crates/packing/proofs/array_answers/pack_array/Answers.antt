-- `packing::array_answers::pack_array` meets its contract. Assumes nothing.
use Prim.Native.Nat.{ℕ}
use mathlib.Core.Path.{sym, ap, ap₂, ◌∙◌}
use Rattle.array_decoder.specs.Calls.{ArrayDecoded, array_leaves, array_number, array_place}
use Rattle.packing.specs.Arrays.{pack_array}
use Rattle.packing.proofs.array_answers.pack_array.Goals as goal

abbrev packed : ArrayDecoded → ℕ
packed d = pack_array (array_number d) (array_leaves d) (array_place d)

pub returns-in-Ok : goal.returns-in-Ok
returns-in-Ok c =
    c.pack.ensures ∙ ap packed (sym c.in-Ok.is)

pub returns-in-Err : goal.returns-in-Err
returns-in-Err c =
    c.pack-in-Err.ensures ∙ ap₂ (λ (n p : ℕ). pack_array n c.in-Err.refused.leaves p) c.number.ensures c.place.ensures
    ∙ ap packed (sym c.in-Err.is)

-- `packing::pack_tested` meets its contract. Assumes nothing.
use Prim.Native.Nat.{ℕ}
use mathlib.Core.Bool.{Bool, true, false}
use mir.Val.{bool_byte}
use Rattle.std.specs.Prelude.{Ok}
use mathlib.Core.Path.{◌≡◌, refl, sym, ap, ap₂, ◌∙◌}
use Rattle.packing.specs.Packing.{pack, yes_of}
use Rattle.codec.specs.Calls.{tested_number, tested_place, Tested}
use Rattle.packing.proofs.pack_tested.Goals as goal

abbrev packed : Tested → ℕ
packed a = pack (tested_number a) (yes_of a) 0 0 (tested_place a)

-- a test as a number, as the code converts it
yes_is : (b : Bool) → bool_byte b ≡ yes_of (Ok b)
yes_is true = refl
yes_is false = refl

pub returns-in-Ok : goal.returns-in-Ok
returns-in-Ok c =
    c.pack.ensures ∙ ap (λ (n : ℕ). pack 0 n 0 0 0) (c.from.ensures ∙ yes_is c.in-Ok.yes) ∙ ap packed (sym c.in-Ok.is)

pub returns-in-Err : goal.returns-in-Err
returns-in-Err c =
    c.pack-in-Err.ensures ∙ ap₂ (λ (n p : ℕ). pack n 0 0 0 p) c.number.ensures c.place.ensures
    ∙ ap packed (sym c.in-Err.is)

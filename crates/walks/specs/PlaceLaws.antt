-- How many places a block of a profile has. Assumes nothing.
use Rattle.std.specs.Prelude.{ℕ, ◌^◌, ◌≤◌, ◌≡◌, refl, Bool, true, false}
use Rattle.std.proofs.Common.{arith, ap, pow_mono}
use Rattle.tables.specs.declared.Table.{Table}
use Rattle.tables.specs.Tables.{Slot, held, is_there, known, slot_of}
use Rattle.tables.specs.Slots.{slot_known, slot_proper, slot_unknown}

-- at a number without an entry stands one of exponent 0
pub exponent_small : (t : Table) (number : ℕ) → (held (slot_of t number)).m ≤ 10
exponent_small t number = go (known t number) refl
  where
    go : (b : Bool) → known t number ≡ b → (held (slot_of t number)).m ≤ 10
    go true e = ((slot_proper t number).limits (ap (λ (s : Slot). is_there s) (slot_known t number e))).small
    go false e = rw (slot_unknown t number e) (omega arith)

pub places_few : (t : Table) (number : ℕ) → 2 ^ (held (slot_of t number)).m ≤ 1024
places_few t number = pow_mono (exponent_small t number)

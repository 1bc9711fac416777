-- What the exported call on an array returns: document 02, request 12. Assumes nothing.
use Rattle.std.specs.Prelude.{ℕ, ◌+◌, ◌*◌, ◌%◌, ◌≡◌, List, ℤ}
use Rattle.refusals.specs.Refusals.{place_named}
use Rattle.rule.specs.Decoding.{area_of, output_of, refusal_of}
use Rattle.rule.specs.Reading.{Outcome, leaves_of}

-- refusal or 0 in the lowest 8 bits, the leaf sum in 40, the place named by 8 in 16
abbrev pub pack_array : ℕ → ℕ → ℕ → ℕ
pack_array number leaves place = number + leaves % 1099511627776 * 256 + place % 65536 * 281474976710656

-- a call whose outcome is o
pub record ReturnsArray (o : Outcome) (word out out' : List ℕ) (area area' : List ℤ) (returned : ℕ) : Type 0 where
  pub packed : returned ≡ pack_array (refusal_of o) (leaves_of o) (place_named word (refusal_of o))
  pub output : out' ≡ output_of o out
  pub lent : area' ≡ area_of o area

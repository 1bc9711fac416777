-- The packed bits of a record: document 01, "Captures and the meter listing". Assumes nothing.
use Rattle.std.specs.Prelude.{ℕ, ◌+◌, ◌-◌, ◌/◌, ◌%◌, ◌^◌, List, get_or}

-- "n bits packed, place 0 in the top bit of the first byte"
abbrev pub packed_bit : List ℕ → ℕ → ℕ
packed_bit s p = get_or s (5 + p / 8) 0 / 2 ^ (7 - p % 8) % 2

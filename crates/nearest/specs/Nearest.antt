-- A word packed by halves or by quarters: what its packing, its transform and its search ask and give. Assumes nothing.
use Rattle.std.specs.Prelude.{ℕ, ◌+◌, ◌-◌, ◌*◌, ◌≤◌, ◌≡◌, Bool, true, false, cond, List, ltb, ℤ, pos, length}
use Rattle.words.specs.Written.{Written}
use Rattle.area.specs.Area.{at, Bits}
use Rattle.peaks.specs.Peaks.{joined}
use Rattle.halves.specs.Halves.{signs_packed, first_in, second_of, Packed}
use Rattle.quarter_packing.specs.QuarterSigns.{quad_signs, QuarterBits}
use Rattle.quarter_sizes.specs.Sized.{Quads}
use Rattle.quarters.specs.Quarters.{firsts, lasts}

-- whether a word of exponent m is packed by quarters: from 16 places on the code takes four numbers at a time, and up to 128 places a
-- quarter's correlation fits 8 bits
abbrev pub quartered : ℕ → Bool
quartered m = cond (ltb 3 m) (ltb m 8) false

-- the exponent of a part
abbrev pub part_exponent : Bool → ℕ → ℕ
part_exponent quarters m = cond quarters (m - 2) (m - 1)

-- a word of parts of q bits, with room for as much again
abbrev pub Packable : Bool → ℕ → List ℤ → Type 0
Packable true q xs = QuarterBits q xs
Packable false q xs = (q ≤ 512) × (4 * q ≡ length xs) × Bits (q + q) xs

-- its parts are packed after it
abbrev pub PackedAfter : Bool → ℕ → List ℤ → List ℤ → Type 0
PackedAfter true q xs ys = Written (pos 0) (4 * q) q (quad_signs q xs) xs ys
PackedAfter false q xs ys = Written (pos 0) (q + q) q (signs_packed q xs) xs ys

-- q packed correlations
abbrev pub Searchable : Bool → ℕ → List ℤ → Type 0
Searchable true q xs = Quads q xs
Searchable false q xs = Packed q xs

-- the number of the word's places, and the correlations that are searched
abbrev pub places_of : Bool → ℕ → ℕ
places_of true q = (q + q) + (q + q)
places_of false q = q + q

abbrev pub searched : Bool → ℕ → List ℤ → ℕ → ℤ
searched true q xs = joined (q + q) (firsts q xs) (lasts q xs)
searched false q xs = joined q (λ j. first_in (at xs j)) (λ j. second_of (at xs j))

-- The header of a capture: document 01, "Captures and the meter listing". Assumes nothing.
use Rattle.std.specs.Prelude.{ℕ, suc, Bool, true, false, cond, List, [], ◌∷◌, length, get_or, ltb, eqb}

-- "A capture starts with the three letters WMR, then a 16-bit version, 1, senior byte first."
abbrev pub header : List ℕ
header = 0x57 ∷ 0x4d ∷ 0x52 ∷ 0 ∷ 1 ∷ []

-- s has the entries of h from index i on
abbrev pub agrees_from : List ℕ → ℕ → List ℕ → Bool
agrees_from [] i s = true
agrees_from (a ∷ h) i s = cond (eqb (get_or s i 0) a) (agrees_from h (suc i) s) false

-- "15: header wrong or short."
abbrev pub header_test : List ℕ → Bool
header_test s = cond (ltb (length s) 5) false (agrees_from header 0 s)

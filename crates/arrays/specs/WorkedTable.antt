-- Small arrays, as one table: each row is a call with its answer. Assumes nothing.
use Rattle.std.specs.Prelude.{ℕ, List, [], ◌∷◌}
use Rattle.rule.specs.Reading.{Outcome, accepted, refused}
use Rattle.rule.specs.WorkedTable.{digits}
use Rattle.arrays.specs.Arrays.{array_call}

-- exponent and order of the row code and of the column code, round limit, leaf limit, array, lengths of output and area: the answer
pub data Row : Type 0 where
  decodes : ℕ → ℕ → ℕ → ℕ → ℕ → ℕ → List ℕ → ℕ → ℕ → Outcome → Row

-- the same call with the answer that the definitions give
abbrev pub valued : Row → Row
valued (decodes mr rr mc rc rounds leaves w room area x) = decodes mr rr mc rc rounds leaves w room area (array_call mr rr mc rc rounds leaves w room area)

unfoldable pub table : List Row
table =
    -- one wrong place, mended by its row; the four columns have order 1
    decodes 2 0 1 1 4 1000000 (digits 8 00011111) 8 32 (accepted (digits 8 00001111) 0 4)
    -- the first row is a tie and stays, and its column is a tie too: 28, with both rows' leaves
    ∷ decodes 2 1 1 0 4 1000000 (digits 8 10000000) 8 32 (refused 28 0 2)
    -- a row that is a tie, mended by its columns
    ∷ decodes 1 0 2 0 4 1000000 (digits 8 01000000) 8 32 (accepted (digits 8 00000000) 0 0)
    -- rows first: two columns would be ties as received
    ∷ decodes 2 0 2 0 4 1000000 (digits 16 0001100110000000) 16 32 (accepted (digits 16 0000000000000000) 0 0)
    -- both rows are refused 12, which counts the leaf limit and ends nothing
    ∷ decodes 2 2 1 1 4 2 (digits 8 10110100) 8 32 (accepted (digits 8 10110100) 0 8)
    -- "Checks are 1, 27 and 2 for the row code, then for the column code, then 3 to 8 once for the whole array."
    ∷ decodes 0 1 11 12 0 0 [] 1 0 (refused 1 0 0)
    ∷ decodes 11 12 0 1 0 0 [] 1 0 (refused 1 0 0)
    ∷ decodes 10 11 0 1 0 0 [] 1 0 (refused 27 0 0)
    ∷ decodes 6 7 0 1 0 0 [] 1 0 (refused 2 0 0)
    ∷ decodes 6 6 11 12 0 0 [] 1 0 (refused 1 0 0)
    ∷ decodes 6 6 7 8 0 0 [] 1 0 (refused 27 0 0)
    ∷ decodes 6 6 6 7 0 0 [] 1 0 (refused 2 0 0)
    ∷ decodes 1 0 2 0 0 0 [] 1 0 (refused 3 0 0)
    ∷ decodes 1 0 2 0 16 0 [] 1 0 (refused 4 0 0)
    ∷ decodes 1 0 2 0 16 1 [] 1 0 (refused 5 0 0)
    ∷ decodes 1 0 2 0 16 1 (digits 8 00020000) 9 31 (refused 6 0 0)
    ∷ decodes 1 0 2 0 16 1 (digits 8 00020000) 8 31 (refused 7 0 0)
    ∷ decodes 1 0 2 0 16 1 (digits 8 00020000) 8 32 (refused 8 0 0)
    ∷ []

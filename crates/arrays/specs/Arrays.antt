-- Blocks in rows and columns: document 02, request 12. Assumes nothing.
use Rattle.std.specs.Prelude.{ℕ, ◌+◌, ◌*◌, ◌/◌, ◌%◌, ◌^◌, ◌<◌, max, Bool, cond, ◌&&◌, List, [], ◌∷◌, ◌++◌, leb, length}
use Rattle.words.specs.Sum.{all_below, sum_below, tabulate}
use Rattle.words.specs.Word.{IsWord, bit}
use Rattle.code.specs.Code.{IsCodeword, codeword_test}
use Rattle.refusals.specs.Refusals.{Check, byte_checks, check}
use Rattle.rule.specs.Reading.{Outcome, accepted, leaves_of, reading, refused}
use Rattle.rule.specs.Decoding.{after, limit_checks, limited, output_of, size_checks}

-- ---- one row or column v, at order r

-- "Each reading has the same limits"
abbrev pub line_read : ℕ → ℕ → ℕ → ℕ → List ℕ → Outcome
line_read m r rounds leaves v = limited leaves (reading r m rounds v)

-- "refused rows left as received"
abbrev pub line_left : ℕ → ℕ → ℕ → ℕ → List ℕ → List ℕ
line_left m r rounds leaves v = output_of (line_read m r rounds leaves v) v

-- ---- "the places row after row": 2 ^ mc rows of 2 ^ mr places
module _ (mr mc : ℕ) where
  abbrev pub row : List ℕ → ℕ → List ℕ
  row w i = tabulate (2 ^ mr) (λ j. bit w (i * 2 ^ mr + j))

  abbrev pub column : List ℕ → ℕ → List ℕ
  column w j = tabulate (2 ^ mc) (λ i. bit w (i * 2 ^ mr + j))

  -- the array with f i j in row i and column j
  abbrev pub array : (ℕ → ℕ → ℕ) → List ℕ
  array f = tabulate (2 ^ (mc + mr)) (λ p. f (p / 2 ^ mr) (p % 2 ^ mr))

  -- whether "every row", or "every column", "is now a codeword" of order r
  unfoldable pub rows_test : ℕ → List ℕ → Bool
  rows_test r w = all_below (2 ^ mc) (λ i. codeword_test mr r (row w i))

  unfoldable pub columns_test : ℕ → List ℕ → Bool
  columns_test r w = all_below (2 ^ mr) (λ j. codeword_test mc r (column w j))

  -- the rows, or the columns, read at order r
  module _ (r rounds leaves : ℕ) where
    -- "All rows are decoded, refused rows left as received."
    unfoldable pub rows_left : List ℕ → List ℕ
    rows_left w = array (λ i j. bit (line_left mr r rounds leaves (row w i)) j)

    -- "Then all columns, in the same manner."
    unfoldable pub columns_left : List ℕ → List ℕ
    columns_left w = array (λ i j. bit (line_left mc r rounds leaves (column w j)) i)

    -- "the leaf count is the sum of the counts they return, refused ones too"
    unfoldable pub row_leaves : List ℕ → ℕ
    row_leaves w = sum_below (2 ^ mc) (λ i. leaves_of (line_read mr r rounds leaves (row w i)))

    unfoldable pub column_leaves : List ℕ → ℕ
    column_leaves w = sum_below (2 ^ mr) (λ j. leaves_of (line_read mc r rounds leaves (column w j)))

-- ---- the row code has exponent mr and order rr, the column code mc and rc
module _ (mr rr mc rc : ℕ) where
  -- "each row a codeword of one code, each column of another"
  pub record IsArray (w : List ℕ) : Type 0 where
    pub word : IsWord (mc + mr) w
    pub rows : (i : ℕ) → i < 2 ^ mc → IsCodeword mr rr (row mr mc w i)
    pub columns : (j : ℕ) → j < 2 ^ mr → IsCodeword mc rc (column mr mc w j)

  -- the same as a test
  unfoldable pub array_test : List ℕ → Bool
  array_test w = rows_test mr mc rr w && columns_test mr mc rc w

  -- "It is accepted if every row and column is now a codeword." "28, some row or column is no codeword at the end, with the summed leaf
  -- count." "No rounds .. are returned": they are 0
  unfoldable pub array_read : ℕ → ℕ → List ℕ → Outcome
  array_read rounds leaves w =
      let v : List ℕ = rows_left mr mc rr rounds leaves w in
      let u : List ℕ = columns_left mr mc rc rounds leaves v in
      let l : ℕ = row_leaves mr mc rr rounds leaves w + column_leaves mr mc rc rounds leaves v in
      cond (array_test u) (accepted u 0 l) (refused 28 0 l)

-- ---- calls

-- "Checks are 1, 27 and 2 for the row code, then for the column code": those of one code
abbrev pub side_checks : ℕ → ℕ → List Check
side_checks m r = check 1 (leb 1 m) ∷ check 1 (leb m 10) ∷ check 27 (leb m 6) ∷ check 2 (leb r m) ∷ []

-- "then 3 to 8 once for the whole array": 3 and 4
abbrev pub array_limits : ℕ → ℕ → ℕ → ℕ → ℕ → ℕ → List Check
array_limits mr rr mc rc rounds leaves = side_checks mr rr ++ side_checks mc rc ++ limit_checks rounds leaves

-- 5 to 8; "the area fits the longer of row and column"
abbrev pub array_buffers : ℕ → ℕ → List ℕ → ℕ → ℕ → List Check
array_buffers mr mc word room area = size_checks (2 ^ (mc + mr)) (8 * 2 ^ max mr mc) (length word) room area ++ byte_checks word

-- the answer of any call: on any input, with an output of `room` bytes and an area of `area` numbers
unfoldable pub array_call : ℕ → ℕ → ℕ → ℕ → ℕ → ℕ → List ℕ → ℕ → ℕ → Outcome
array_call mr rr mc rc rounds leaves word room area =
    after (array_limits mr rr mc rc rounds leaves ++ array_buffers mr mc word room area) (array_read mr rr mc rc rounds leaves word)

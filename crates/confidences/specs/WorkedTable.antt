-- Calls for confidences worked out from the request's words, as one table: each row is a call with its answer. Assumes nothing.
use Rattle.std.specs.Prelude.{ℕ, ◌*◌, ◌^◌, List, [], ◌∷◌, ◌++◌, ℤ, pos, neg_ℤ}
use Rattle.rule.specs.Decoding.{Values, values, answer_of, output_of, refusal_of}
use Rattle.rule.specs.Reading.{Outcome}
use Rattle.rule.specs.WorkedTable.{digits}
use Rattle.confidences.specs.Answers.{confidence_call, value_place}
use Rattle.confidences.specs.Confidences.{signs_of}

-- exponent, order, round limit, leaf limit, confidences: the answer, the place named, the decoded word
pub data Row : Type 0 where
  reads : ℕ → ℕ → ℕ → ℕ → List ℤ → Values → ℕ → List ℕ → Row

-- the same call with the answer that the definitions give, in buffers of the right sizes
abbrev pub valued : Row → Row
valued (reads m r rounds leaves x v p d) =
    let o : Outcome = confidence_call m r rounds leaves x (2 ^ m) (8 * 2 ^ m) in
    reads m r rounds leaves x (answer_of m (signs_of m x) o) (value_place m r rounds x (refusal_of o)) (output_of o [])

abbrev pub minus : ℕ → ℤ
minus n = neg_ℤ (pos n)

-- order 0: the sign of the sum, and a sum of 0
unfoldable pub zeroth : List Row
zeroth =
    reads 2 0 4 1000000 (pos 5 ∷ minus 7 ∷ pos 3 ∷ minus 2 ∷ []) (values 0 0 0 2) 0 (digits 4 1111)
    ∷ reads 2 0 4 1000000 (pos 5 ∷ minus 7 ∷ pos 3 ∷ minus 1 ∷ []) (values 9 0 0 0) 0 []
    ∷ []

-- order 1: the greatest correlation, and two that are equal, of 0 too
unfoldable pub first : List Row
first =
    reads 1 1 1 1 (pos 3 ∷ minus 4 ∷ []) (values 0 0 1 0) 0 (digits 2 01)
    ∷ reads 1 1 1 1 (pos 3 ∷ pos 3 ∷ []) (values 0 0 1 0) 0 (digits 2 00)
    ∷ reads 2 1 1 1 (pos 9 ∷ minus 1 ∷ minus 2 ∷ minus 9 ∷ []) (values 0 0 1 1) 0 (digits 4 0011)
    ∷ reads 2 1 1 1 (pos 2047 ∷ minus 2047 ∷ pos 1 ∷ pos 1 ∷ []) (values 9 0 1 0) 0 []
    ∷ reads 2 1 1 1 (pos 0 ∷ pos 0 ∷ pos 0 ∷ pos 0 ∷ []) (values 9 0 1 0) 0 []
    ∷ []

-- the lowest place outside
unfoldable pub outside : List Row
outside =
    reads 2 1 1 1 (pos 2047 ∷ minus 2048 ∷ pos 0 ∷ pos 3000 ∷ []) (values 18 0 0 0) 1 []
    ∷ reads 2 1 1 1 (pos 2048 ∷ minus 2047 ∷ pos 1 ∷ pos 1 ∷ []) (values 18 0 0 0) 0 []
    ∷ []

-- order 2: exactly the round limit of rounds
unfoldable pub rounds : List Row
rounds =
    reads 2 2 1 1000000 (pos 1 ∷ pos 2 ∷ pos 3 ∷ pos 4 ∷ []) (values 0 1 3 0) 0 (digits 4 0000)
    ∷ reads 2 2 2 1000000 (pos 5 ∷ minus 6 ∷ pos 7 ∷ pos 8 ∷ []) (values 0 2 6 0) 0 (digits 4 0100)
    ∷ reads 3 2 2 1000000 (pos 1499 ∷ pos 5 ∷ pos 1245 ∷ minus 1662 ∷ pos 0 ∷ pos 8 ∷ pos 1904 ∷ minus 4 ∷ []) (values 0 2 14 0) 0 (digits 8 00010001)
    ∷ reads 3 2 2 1000000 (minus 1 ∷ pos 7 ∷ minus 7 ∷ minus 1606 ∷ pos 3 ∷ minus 9 ∷ minus 122 ∷ pos 3 ∷ []) (values 0 2 14 1) 0 (digits 8 00110110)
    ∷ reads 3 2 2 1000000 (minus 1772 ∷ pos 1 ∷ minus 192 ∷ minus 8 ∷ pos 1 ∷ pos 6 ∷ pos 4 ∷ pos 6 ∷ []) (values 11 2 14 0) 0 []
    ∷ []

-- sums beyond 2,047 on the way and at the end
unfoldable pub cut : List Row
cut =
    reads 4 2 2 1000000 (minus 2 ∷ pos 2047 ∷ minus 3 ∷ minus 3 ∷ pos 2047 ∷ pos 3 ∷ pos 2047 ∷ minus 2047 ∷ minus 2 ∷ pos 2047 ∷ minus 2047 ∷ pos 3 ∷ pos 1 ∷ pos 2047 ∷ minus 2047 ∷ pos 2047 ∷ []) (values 0 2 30 1) 0 (digits 16 1011000110000010)
    ∷ []

-- all abstained: the values are kept
unfoldable pub kept : List Row
kept =
    reads 2 2 1 1000000 (pos 0 ∷ pos 0 ∷ pos 0 ∷ pos 0 ∷ []) (values 17 1 3 0) 0 []
    ∷ reads 2 2 1 1000000 (pos 5 ∷ pos 0 ∷ pos 0 ∷ pos 0 ∷ []) (values 17 1 3 0) 1 []
    ∷ reads 3 2 2 1000000 (minus 5 ∷ pos 5 ∷ pos 5 ∷ pos 5 ∷ pos 5 ∷ pos 5 ∷ pos 5 ∷ pos 5 ∷ []) (values 11 2 14 0) 0 []
    ∷ []

-- a place that ends with value 0, of signs that are a codeword and of others; and an inner one, which abstains
unfoldable pub zeros : List Row
zeros =
    reads 3 2 2 1000000 (pos 0 ∷ minus 7 ∷ pos 1969 ∷ pos 7 ∷ pos 9 ∷ pos 1681 ∷ pos 0 ∷ minus 9 ∷ []) (values 17 2 14 0) 0 []
    ∷ reads 3 2 1 1000000 (pos 4 ∷ pos 0 ∷ pos 358 ∷ pos 2047 ∷ minus 7 ∷ minus 9 ∷ pos 0 ∷ minus 6 ∷ []) (values 17 1 7 0) 1 []
    ∷ reads 3 3 2 1000000 (minus 1 ∷ minus 4 ∷ minus 1 ∷ pos 0 ∷ minus 1 ∷ pos 1 ∷ minus 1 ∷ pos 3 ∷ []) (values 17 2 84 0) 3 []
    ∷ []

-- the leaf limit met, and one below: 12 before 17
unfoldable pub limit : List Row
limit =
    reads 2 2 1 3 (pos 1 ∷ pos 1 ∷ pos 1 ∷ pos 1 ∷ []) (values 0 1 3 0) 0 (digits 4 0000)
    ∷ reads 2 2 2 5 (pos 5 ∷ minus 6 ∷ pos 7 ∷ pos 8 ∷ []) (values 12 0 5 0) 0 []
    ∷ reads 2 2 1 2 (pos 0 ∷ pos 0 ∷ pos 0 ∷ pos 0 ∷ []) (values 12 0 2 0) 0 []
    ∷ []

-- a confidence of 0 counts as bit 0: two blocks that differ by a codeword, with different places mended
unfoldable pub received : List Row
received =
    reads 2 1 1 1 (pos 0 ∷ pos 5 ∷ pos 5 ∷ pos 5 ∷ []) (values 0 0 1 0) 0 (digits 4 0000)
    ∷ reads 2 1 1 1 (pos 0 ∷ minus 5 ∷ minus 5 ∷ minus 5 ∷ []) (values 0 0 1 1) 0 (digits 4 1111)
    ∷ []

unfoldable pub table : List Row
table = zeroth ++ first ++ outside ++ rounds ++ cut ++ kept ++ zeros ++ limit ++ received

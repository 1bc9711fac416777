-- Document 01, "Meter bench values", as one table: each row is a question with its value. Assumes nothing.
use Rattle.std.specs.Prelude.{ℕ, pred, List, [], ◌∷◌, replicate, suc, ◌-◌, ◌/◌, ◌%◌, ◌^◌, ◌++◌}
use Rattle.words.specs.Sum.{tabulate}
use Rattle.std.specs.Int.Bits.{bit_xor}
use Rattle.code.specs.Code.{codeword}
use Rattle.rule.specs.Decoding.{decode_of}
use Rattle.rule.specs.Reading.{Outcome, accepted, refused}
use Rattle.direction.specs.Direction.{coset_of, highest, insert_zero, project}

-- the words of n places, all zeros or only place 0 wrong
abbrev pub zeros : ℕ → List ℕ
zeros n = replicate n 0

abbrev pub wrong : ℕ → List ℕ
wrong n = 1 ∷ zeros (pred n)

abbrev pub four_wrong : List ℕ
four_wrong = 1 ∷ 1 ∷ 1 ∷ 0 ∷ 1 ∷ zeros 27

-- ones exactly at 2, 10, 11, 16, 17, 39, 43, 45 and 54
abbrev pub nine_wrong : List ℕ
nine_wrong = tabulate 64 (λ p. 0010000000110000110000000000000000000001000101000000001000000000 / 10 ^ (63 - p) % 10)

-- a question, and last in it the value
pub data Row : Type 0 where
  -- exponent, order, message: the codeword
  encodes : ℕ → ℕ → List ℕ → List ℕ → Row
  -- exponent, direction, word: the projection
  projects : ℕ → ℕ → List ℕ → List ℕ → Row
  -- exponent, direction: of the cosets in order, the representatives, and the other members; then by place the number of its coset
  cosets : ℕ → ℕ → List ℕ → List ℕ → List ℕ → Row
  -- exponent, order, round limit, leaf limit, word: the answer
  decodes : ℕ → ℕ → ℕ → ℕ → List ℕ → Outcome → Row

-- the same question with the value that the definitions give
abbrev pub valued : Row → Row
valued (encodes m r message x) = encodes m r message (codeword m r message)
valued (projects m b w x) = projects m b w (project (pred m) b w)
valued (cosets m b x y z) =
    let first : ℕ → ℕ = insert_zero (highest b) in
    cosets m b (tabulate (2 ^ pred m) first) (tabulate (2 ^ pred m) (λ q. bit_xor (first q) b)) (tabulate (2 ^ m) (coset_of b))
valued (decodes m r rounds leaves w x) = decodes m r rounds leaves w (decode_of m r rounds leaves w)

-- the n digits of x, by place from 0
abbrev pub digits : ℕ → ℕ → List ℕ
digits n x = tabulate n (λ p. x / 10 ^ (n - suc p) % 10)

-- the values marked (P), of exponents to 3
unfoldable pub marked : List Row
marked =
    encodes 2 1 (digits 3 101) (digits 4 1100)
    ∷ encodes 3 2 (digits 7 0001000) (digits 8 00010001)
    ∷ projects 3 1 (digits 8 00010001) (digits 4 0101)
    ∷ projects 3 3 (digits 8 00010001) (digits 4 1010)
    ∷ projects 3 4 (digits 8 00010001) (digits 4 0000)
    ∷ cosets 3 3 (digits 4 0145) (digits 4 3276) (digits 8 01102332)
    ∷ decodes 1 1 4 1000000 (digits 2 01) (accepted (digits 2 01) 0 1)
    ∷ decodes 2 1 4 1000000 (digits 4 1000) (refused 9 0 1)
    ∷ decodes 2 0 4 1000000 (digits 4 0111) (accepted (digits 4 1111) 0 0)
    ∷ decodes 2 0 4 1000000 (digits 4 0011) (refused 9 0 0)
    ∷ decodes 3 2 4 1000000 (digits 8 10000000) (refused 11 1 7)
    ∷ decodes 3 2 4 7 (digits 8 10000000) (refused 11 1 7)
    ∷ decodes 3 2 4 6 (digits 8 10000000) (refused 12 0 6)
    ∷ []

-- those of exponent 4: only place 0 wrong, and the same block plus a codeword. "Limits not named are 4 rounds and 1,000,000 leaves": a value
-- that names no round limit stands under 4, and under the 2 of the sentence before it too
unfoldable pub four : List Row
four =
    decodes 4 2 2 1000000 (wrong 16) (accepted (zeros 16) 2 30)
    ∷ decodes 4 2 2 29 (wrong 16) (refused 12 0 29)
    ∷ decodes 4 2 4 29 (wrong 16) (refused 12 0 29)
    ∷ decodes 4 2 1 15 (wrong 16) (refused 10 1 15)
    ∷ decodes 4 2 1 14 (wrong 16) (refused 12 0 14)
    ∷ decodes 4 2 2 1000000 (digits 16 1001000100010001) (accepted (digits 16 0001000100010001) 2 30)
    ∷ decodes 4 2 4 1000000 (digits 16 1001000100010001) (accepted (digits 16 0001000100010001) 2 30)
    ∷ []

-- m 2, r 2: any word accepted, rounds 1, leaf count 3
unfoldable pub sixteen : List Row
sixteen = tabulate 16 (λ x. let w : List ℕ = tabulate 4 (λ p. x / 2 ^ p % 2) in decodes 2 2 4 1000000 w (accepted w 1 3))

-- values beside them: direction 5, a tie at m 1, two places wrong, and exponents that are refused
unfoldable pub beside : List Row
beside =
    cosets 3 5 (digits 4 0123) (digits 4 5476) (digits 8 01231032)
    ∷ projects 3 5 (digits 8 01000000) (digits 4 0100)
    ∷ decodes 1 0 4 1000000 (digits 2 10) (refused 9 0 0)
    ∷ decodes 4 2 4 1000000 (digits 16 1100000000000000) (refused 11 1 15)
    ∷ decodes 0 0 4 1000000 [] (refused 1 0 0)
    ∷ decodes 11 2 4 1000000 [] (refused 1 0 0)
    ∷ []

-- order 3
unfoldable pub deep : List Row
deep =
    decodes 5 3 4 1000000 (wrong 32) (accepted (zeros 32) 2 1395)
    ∷ decodes 5 3 4 1394 (wrong 32) (refused 12 0 1394)
    ∷ decodes 5 3 1 1000000 (wrong 32) (refused 11 1 465)
    ∷ []

-- document 02, request 5: equality leaves the bits, and a block that the votes of all directions would leave is mended by those cast
unfoldable pub cast : List Row
cast = decodes 5 2 4 1000000 four_wrong (refused 11 1 31) ∷ decodes 6 2 4 1000000 nine_wrong (accepted (zeros 64) 2 126) ∷ []

unfoldable pub table : List Row
table = (marked ++ sixteen ++ beside) ++ four ++ deep ++ cast

-- Directions, their cosets, and the projection of a word: document 01, "Directions and cosets". Assumes nothing.
use Rattle.std.specs.Prelude.{ℕ, suc, ◌+◌, ◌-◌, ◌*◌, ◌/◌, ◌%◌, ◌^◌, cond, List, eqb}
use Rattle.std.specs.Int.Bits.{bit_xor}
use Rattle.std.specs.Int.Count.{count_leading_zeros}
use Rattle.words.specs.Sum.{tabulate}
use Rattle.words.specs.Word.{bit}

-- "Let h be the position of the highest one in b, position 0 the lowest"
unfoldable pub highest : ℕ → ℕ
highest b = 31 - count_leading_zeros 32 b

-- "represented by its member with bit h zero": of p and p XOR b, the one whose bit at b's highest one is 0
unfoldable pub representative : ℕ → ℕ → ℕ
representative b p = cond (eqb (p / 2 ^ highest b % 2) 0) p (bit_xor p b)

-- "deleting bit h (higher bits move down one)"
unfoldable pub delete_bit : ℕ → ℕ → ℕ
delete_bit h p = p / 2 ^ suc h * 2 ^ h + p % 2 ^ h

-- the number of p's coset, "numbered by deleting bit h from that member"
unfoldable pub coset_of : ℕ → ℕ → ℕ
coset_of b p = delete_bit (highest b) (representative b p)

-- the number q with a 0 inserted at position h: the representative of coset q
unfoldable pub insert_zero : ℕ → ℕ → ℕ
insert_zero h q = q / 2 ^ h * 2 ^ suc h + q % 2 ^ h

-- "The projection by b holds, at each coset's number, the sum of the coset's two bits", of a word of exponent m + 1
unfoldable pub project : ℕ → ℕ → List ℕ → List ℕ
project m b w =
    tabulate (2 ^ m)
    (λ q. let p : ℕ = insert_zero (highest b) q in (bit w p + bit w (bit_xor p b)) % 2)

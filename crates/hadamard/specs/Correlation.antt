-- Correlations, and the mask of the greatest: document 01, "A reading at order r", order 1. Assumes nothing.
-- Values stand for the bits of a word: +1 for 0 and -1 for 1.
use Rattle.std.specs.Prelude.{ℕ, zero, suc, ◌+◌, ◌%◌, ◌^◌, List, eqb, ℤ, pos, negsuc, neg_ℤ}
use Rattle.std.specs.Int.Bits.{bit_and}
use Rattle.std.specs.Int.Count.{ones}
use Rattle.words.specs.Sum.{sum_below, sum_below_ℤ, first_where, tabulate}
use Rattle.words.specs.Word.{bit, indicator}

-- +1 for a bit 0, -1 for a bit 1
abbrev pub sign : ℕ → ℤ
sign zero = pos 1
sign (suc b) = negsuc 0

-- the values of a word
abbrev pub values : List ℕ → ℕ → ℤ
values w p = sign (bit w p)

-- z, negated where t is not 0
abbrev pub signed : ℕ → ℤ → ℤ
signed zero z = z
signed (suc t) z = neg_ℤ z

-- "For each mask u the correlation is the sum over p" of p's value, negated where "the parity of the ones in u AND p" is odd
unfoldable pub correlation : ℕ → (ℕ → ℤ) → ℕ → ℤ
correlation m v u = sum_below_ℤ (2 ^ m) (λ p. signed (ones (bit_and u p) % 2) (v p))

-- the first order codeword of mask u and constant s: at p, s plus the parity of the ones in u AND p
unfoldable pub affine : ℕ → ℕ → ℕ → List ℕ
affine m u s = tabulate (2 ^ m) (λ p. (s + ones (bit_and u p)) % 2)

-- 1 where a correlation is negative: the constant of the nearer of the two codewords of its mask
abbrev pub constant_of : ℤ → ℕ
constant_of (pos n) = 0
constant_of (negsuc n) = 1

-- how many of f 0, .., f (n - 1) are x
unfoldable pub count_below : ℕ → (ℕ → ℕ) → ℕ → ℕ
count_below n f x = sum_below n (λ u. indicator (eqb (f u) x))

-- the first of the places below n where f is x, and n where there is none
abbrev pub first_below : ℕ → (ℕ → ℕ) → ℕ → ℕ
first_below n f x = first_where n (λ u. eqb (f u) x)

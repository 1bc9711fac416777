-- How far from another answer: document 02, request 13. Assumes nothing.
use Rattle.std.specs.Prelude.{ℕ, ◌-◌, ◌^◌, cond, List, eqb, nat_abs}
use Rattle.words.specs.Sum.{greatest_below}
use Rattle.hadamard.specs.Correlation.{correlation, first_below, values}

-- f at every place but u, where it is 0
abbrev pub others : (ℕ → ℕ) → ℕ → ℕ → ℕ
others f u v = cond (eqb v u) 0 (f v)

-- the greatest of f 0, .., f (n - 1) less the greatest at another place than its first: 0 where two places have the greatest
unfoldable pub gap_below : ℕ → (ℕ → ℕ) → ℕ
gap_below n f =
    let most : ℕ = greatest_below n f in
    let u : ℕ = first_below n f most in
    most - greatest_below n (others f u)

-- "For order 1 the crew wants the gap between the greatest and the second absolute correlation.": of two masks of the word w
abbrev pub gap_of : ℕ → List ℕ → ℕ
gap_of m w = gap_below (2 ^ m) (λ u. nat_abs (correlation m (values w) u))

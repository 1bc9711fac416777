-- Confidences in the area: values of exponent m + 1 in its front, then as many sums, then projections or what was decoded from them.
-- Assumes nothing.
use Rattle.std.specs.Prelude.{ℕ, suc, ◌+◌, ◌*◌, ◌/◌, ◌%◌, ◌^◌, ◌≤◌, ◌<◌, ◌≡◌, List, length, take, ℤ, nat_abs}
use Rattle.std.specs.Int.Bits.{bit_xor}
use Rattle.words.specs.Sum.{sum_below_ℤ}
use Rattle.words.specs.Word.{bit}
use Rattle.area.specs.Area.{at}
use Rattle.hadamard.specs.Correlation.{signed, constant_of}
use Rattle.direction.specs.Direction.{coset_of}
use Rattle.direction.specs.IsDirection.{IsDirection}
use Rattle.confidences.specs.Confidences.{greatest, project_values}

-- the values in the first n numbers
abbrev pub front_of : ℕ → List ℤ → List ℤ
front_of n xs = take n xs

-- the first n numbers are confidences
pub record Values (n : ℕ) (xs : List ℤ) : Type 0 where
  pub room : n ≤ length xs
  pub small : (p : ℕ) → p < n → nat_abs (at xs p) ≤ greatest

-- the n numbers after the first n are sums, far from the ends of 32 bits
pub record Sums (n : ℕ) (xs : List ℤ) : Type 0 where
  pub small : (p : ℕ) → p < n → nat_abs (at xs (n + p)) < 2 ^ 29

-- what direction b asks of the area: its projection goes to the 2^m numbers from c on, after the values and their sums
pub record Projects (m b c : ℕ) (xs : List ℤ) : Type 0 where
  pub direction : IsDirection m b
  pub beyond : 4 * 2 ^ m ≤ c
  pub room : c + 2 ^ m ≤ length xs
  pub values : Values (2 ^ suc m) xs

-- the word d stands in the n numbers from c on by their signs
pub record Signs (n c : ℕ) (d : List ℕ) (xs : List ℤ) : Type 0 where
  pub each : (q : ℕ) → q < n → constant_of (at xs (c + q)) ≡ bit d q

-- what direction b says of place p, by the signs from c on
abbrev pub heard_at : ℕ → ℕ → List ℤ → ℕ → ℤ
heard_at b c xs p = signed (constant_of (at xs (c + coset_of b p))) (at xs (bit_xor p b))

-- ---- four directions at a time, 4 × k to 4 × k + 3: their projections stand one after the other

-- what they ask of the area
pub record ProjectsFour (m k : ℕ) (xs : List ℤ) : Type 0 where
  pub direction : IsDirection m (4 * k)
  pub blocks : 2 ≤ m
  pub room : 8 * 2 ^ m ≤ length xs
  pub values : Values (2 ^ suc m) xs

-- entry j of the four projections
abbrev pub four_projected : ℕ → ℕ → List ℤ → ℕ → ℤ
four_projected m k x j = at (project_values m (4 * k + j / 2 ^ m) x) (j % 2 ^ m)

-- what the four say of place p
abbrev pub four_heard : ℕ → ℕ → List ℤ → ℕ → ℤ
four_heard m k xs p = sum_below_ℤ 4 (λ l. heard_at (4 * k + l) (4 * 2 ^ m + l * 2 ^ m) xs p)

-- The sizes of quads with the masks that they stand for, in one number each, so that the greatest size is found with its mask.
-- Assumes nothing.
use Rattle.std.specs.Prelude.{ℕ, ◌+◌, ◌-◌, ◌*◌, ◌/◌, ◌%◌, ◌≤◌, ◌<◌, max, List, eqb, ℤ, pos, nat_abs, ◌+ℤ◌, length}
use Rattle.words.specs.Sum.{greatest_below, sum_below}
use Rattle.words.specs.Word.{indicator}
use Rattle.area.specs.Area.{at}
use Rattle.quads.specs.Quads.{first_sum, last_sum, first_difference, last_difference, sum_size, difference_size, Bounded}

-- some quads of numbers from -32 to 32
pub record BoundedAll (xs : List ℤ) : Type 0 where
  pub few : length xs ≤ 32
  pub each : (i : ℕ) → i < length xs → Bounded (at xs i)

-- ---- four bytes side by side

abbrev pub bytes : ℕ → ℕ → ℕ → ℕ → ℕ
bytes p q r s = p + 256 * q + 65536 * r + 16777216 * s

-- a number raised by 128
abbrev pub up : ℤ → ℕ
up x = nat_abs (x +ℤ pos 128)

-- how far a byte is from 128
abbrev pub off : ℕ → ℕ
off x = (x - 128) + (128 - x)

-- the sums and differences of a quad, raised
abbrev pub pairs : ℤ → ℕ
pairs z = bytes (up (first_sum z)) (up (first_difference z)) (up (last_sum z)) (up (last_difference z))

abbrev pub offs : ℕ → ℕ
offs f = bytes (off (f % 256)) (off (f / 256 % 256)) (off (f / 65536 % 256)) (off (f / 16777216 % 256))

-- ---- keys

-- the greater size of a quad, in units of 1024, with its mask: k for the sums, k + 1 for the differences
abbrev pub key_of : ℤ → ℕ → ℕ
key_of z k = max (sum_size z * 1024 + k) (difference_size z * 1024 + (k + 1))

-- quad i stands for the masks from 4 i on
unfoldable pub greatest_key : List ℤ → ℕ
greatest_key xs = greatest_below (length xs) (λ i. key_of (at xs i) (4 * i))

-- how many sizes are g
unfoldable pub count_of : List ℤ → ℕ → ℕ
count_of xs g = sum_below (length xs) (λ i. indicator (eqb (sum_size (at xs i)) g) + indicator (eqb (difference_size (at xs i)) g))

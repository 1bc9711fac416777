-- Four numbers packed in one, and the sizes of their sums and differences. Assumes nothing.
use Rattle.std.specs.Prelude.{ℕ, ◌/◌, ◌%◌, ◌≤◌, ℤ, pos, nat_abs, ◌+ℤ◌, ◌-ℤ◌}
use Rattle.peaks.specs.Peaks.{packed_by, pair_size}

-- a, b, c and d in one number, as digits to base 256, where all are small
abbrev pub quad : ℤ → ℤ → ℤ → ℤ → ℤ
quad a b c d = packed_by 65536 (packed_by 256 a b) (packed_by 256 c d)

-- raised so that the four digits count from 64 up
abbrev pub raised : ℤ → ℕ
raised z = nat_abs (z +ℤ pos 1077952576)

-- the number of weight w: 1, 256, 65536 or 16777216
unfoldable pub number_of : ℕ → ℤ → ℤ
number_of w z = pos (raised z / w % 256) -ℤ pos 64

-- the sums and the differences of the first two numbers and of the last two
abbrev pub first_sum : ℤ → ℤ
first_sum z = number_of 1 z +ℤ number_of 256 z

abbrev pub last_sum : ℤ → ℤ
last_sum z = number_of 65536 z +ℤ number_of 16777216 z

abbrev pub first_difference : ℤ → ℤ
first_difference z = number_of 1 z -ℤ number_of 256 z

abbrev pub last_difference : ℤ → ℤ
last_difference z = number_of 65536 z -ℤ number_of 16777216 z

abbrev pub sum_size : ℤ → ℕ
sum_size z = pair_size (first_sum z) (last_sum z)

abbrev pub difference_size : ℤ → ℕ
difference_size z = pair_size (first_difference z) (last_difference z)

-- a number that can be raised: 32 in each digit is the most
pub record Raisable (z : ℤ) : Type 0 where
  pub small : nat_abs z ≤ 538976288

-- a quad of numbers from -32 to 32: the sums and differences of two fit 8 bits, and so does the sum of two sizes
pub record Bounded (z : ℤ) : Type 0 where
  pub raisable : Raisable z
  pub first : nat_abs (number_of 1 z) ≤ 32
  pub second : nat_abs (number_of 256 z) ≤ 32
  pub third : nat_abs (number_of 65536 z) ≤ 32
  pub fourth : nat_abs (number_of 16777216 z) ≤ 32

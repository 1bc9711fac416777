-- Two numbers packed in one, and the pairs that a word's halves make. Assumes nothing.
use Rattle.std.specs.Prelude.{ℕ, ◌+◌, ◌/◌, ◌%◌, ◌≤◌, ◌<◌, ◌≡◌, List, ℤ, pos, nat_abs, ◌+ℤ◌, ◌-ℤ◌, length}
use Rattle.area.specs.Area.{at}
use Rattle.hadamard.specs.Correlation.{sign}
use Rattle.peaks.specs.Peaks.{packed_by, pair_size}

abbrev pub packed : ℤ → ℤ → ℤ
packed = packed_by 2048

-- raised so that both digits to base 2048 count from 1024 up
abbrev pub raised : ℤ → ℕ
raised z = nat_abs (z +ℤ pos 2098176)

unfoldable pub first_in : ℤ → ℤ
first_in z = pos (raised z % 2048) -ℤ pos 1024

unfoldable pub second_of : ℤ → ℤ
second_of z = pos (raised z / 2048) -ℤ pos 1024

abbrev pub size_of : ℤ → ℕ
size_of z = pair_size (first_in z) (second_of z)

-- the signs of the bits i and h + i
abbrev pub signs_packed : ℕ → List ℤ → ℕ → ℤ
signs_packed h xs i = packed (sign (nat_abs (at xs i))) (sign (nat_abs (at xs (h + i))))

-- h pairs of numbers up to 512 in the front of a part of twice that length
pub record Packed (h : ℕ) (xs : List ℤ) : Type 0 where
  pub some : 0 < h
  pub few : h ≤ 512
  pub size : length xs ≡ h + h
  pub small : (i : ℕ) → i < h → nat_abs (at xs i) < 2097152
  pub first : (i : ℕ) → i < h → nat_abs (first_in (at xs i)) ≤ 512
  pub second : (i : ℕ) → i < h → nat_abs (second_of (at xs i)) ≤ 512

-- Quads, and the sizes of their sums and differences. Assumes nothing.
use Rattle.std.specs.Prelude.{ℕ, ◌+◌, ◌-◌, ◌*◌, ◌%◌, ◌≤◌, ◌<◌, ◌≡◌, List, ℤ, pos, length}
use Rattle.std.specs.Int.Bits.{bit_and}
use Rattle.words.specs.Written.{Written}
use Rattle.area.specs.Area.{at}
use Rattle.quads.specs.Quads.{sum_size, difference_size, Bounded}

-- q quads in the front of a part of four times that length; q is a power of 2
pub record Quads (q : ℕ) (xs : List ℤ) : Type 0 where
  pub some : 0 < q
  pub few : q ≤ 32
  pub fours : q % 4 ≡ 0
  pub masked : (j : ℕ) → bit_and j (q - 1) ≡ j % q
  pub size : 4 * q ≡ length xs
  pub each : (i : ℕ) → i < q → Bounded (at xs i)

-- the sizes of the four quads from i on: those of the sums from q + i on, those of the differences from 2 * q + i on
pub record FourSized (q i : ℕ) (xs ys : List ℤ) : Type 0 where
  pub between : List ℤ
  pub sums : Written (pos 0) (q + i) 4 (λ k. pos (sum_size (at xs (i + k)))) xs between
  pub differences : Written (pos 0) (q + q + i) 4 (λ k. pos (difference_size (at xs (i + k)))) between ys

-- the sizes of the first n of q quads
pub record Sized (q n : ℕ) (xs ys : List ℤ) : Type 0 where
  pub long : length ys ≡ length xs
  pub quads : (j : ℕ) → j < q → at ys j ≡ at xs j
  pub sums : (j : ℕ) → j < n → at ys (q + j) ≡ pos (sum_size (at xs j))
  pub differences : (j : ℕ) → j < n → at ys (q + q + j) ≡ pos (difference_size (at xs j))

-- What the functions inside `gap` ask for. Assumes nothing.
use Rattle.std.specs.Prelude.{ℕ, ◌^◌, ◌≤◌, max, ◌≡◌, cond, List, eqb, ℤ, pos, nat_abs, length}
use Rattle.area.specs.Area.{at}
use Rattle.peaks.specs.Peaks.{Pairs}
use Rattle.words.specs.Word.{IsWord}

-- pairs of numbers whose absolute values are small
pub record Small (h : ℕ) (xs : List ℤ) : Type 0 where
  pub pairs : Pairs h xs
  pub each : (i : ℕ) → nat_abs (at xs i) ≤ 512

-- the size of a pair of them
pub record Size (x : ℤ) : Type 0 where
  pub whole : x ≡ pos (nat_abs x)
  pub small : nat_abs x ≤ 1024

-- a size, and two that are at most as great
pub record Heights (x a b : ℤ) : Type 0 where
  pub top : Size x
  pub first : Size a
  pub second : Size b
  pub most : max (nat_abs a) (nat_abs b) ≤ nat_abs x

-- f at every place where it is not x; elsewhere 0
abbrev pub unlike : ℕ → (ℕ → ℕ) → ℕ → ℕ
unlike x f i = cond (eqb (f i) x) 0 (f i)

-- a call that passed its checks, with the first n numbers of the area
pub record Fits (m : ℕ) (word : List ℕ) (part : List ℤ) : Type 0 where
  pub some : 1 ≤ m
  pub most : m ≤ 10
  pub input : IsWord m word
  pub room : length part ≡ 2 ^ m

-- Projections and votes in the area: a word of exponent m + 1 in its front, then as many votes, then a projection or what was decoded
-- from it. Assumes nothing.
use Rattle.std.specs.Prelude.{ℕ, suc, ◌+◌, ◌*◌, ◌%◌, ◌^◌, ◌≤◌, ◌<◌, ◌≡◌, List, length, ℤ, pos, nat_abs}
use Rattle.words.specs.Word.{bit}
use Rattle.area.specs.Area.{at, IsBit, Bits, word_of}
use Rattle.direction.specs.Direction.{project, coset_of}
use Rattle.direction.specs.IsDirection.{IsDirection}

-- what direction b asks of the area
pub record Projects (m b : ℕ) (xs : List ℤ) : Type 0 where
  pub direction : IsDirection m b
  pub room : 5 * 2 ^ m ≤ length xs
  pub bits : Bits (2 ^ suc m) xs

-- the n numbers after the first n are votes, fewer than b each
pub record Tally (n b : ℕ) (xs : List ℤ) : Type 0 where
  pub whole : (p : ℕ) → p < n → at xs (n + p) ≡ pos (nat_abs (at xs (n + p)))
  pub few : (p : ℕ) → p < n → nat_abs (at xs (n + p)) < b

-- a decoded word stands where the projection was
pub record InProjection (m : ℕ) (xs : List ℤ) : Type 0 where
  pub decoded : (q : ℕ) → q < 2 ^ m → IsBit (at xs (4 * 2 ^ m + q))

-- direction b's vote on place p, by that decoded word
abbrev pub cast_vote : ℕ → ℕ → List ℤ → ℕ → ℕ
cast_vote m b xs p = (bit (project m b (word_of (2 ^ suc m) xs)) (coset_of b p) + nat_abs (at xs (4 * 2 ^ m + coset_of b p))) % 2

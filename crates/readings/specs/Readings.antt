-- What a reading and a round ask and promise. Assumes nothing.
use Rattle.std.specs.Prelude.{Option, ℕ, suc, ◌+◌, ◌*◌, ◌^◌, ◌≤◌, ◌<◌, ◌≡◌, List, length, ℤ, pos}
use Rattle.area.specs.Area.{at, Bits, SameFront, word_of}
use Rattle.rule.specs.Reading.{Outcome, abstained, votes, round_leaves}
use Rattle.steps.specs.Steps.{count_of}
use Rattle.steps.specs.declared.Count.{Count}

-- a reading may start on the word in the front
pub record Ready (m r left : ℕ) (xs : List ℤ) : Type 0 where
  pub some : 1 ≤ m
  pub small : m ≤ 10
  pub order : r ≤ m
  pub room : 4 * 2 ^ m ≤ length xs
  pub bits : Bits (2 ^ m) xs
  pub few : left ≤ 1000000

-- what a round of a word of exponent m + 1 leaves: the word, and the votes after it
pub record Voted (m left : ℕ) (lower : List ℕ → Outcome) (xs ys : List ℤ) (count : Option Count) : Type 0 where
  pub said : count ≡ count_of left (round_leaves m lower (word_of (2 ^ suc m) xs)) (abstained m lower (word_of (2 ^ suc m) xs))
  pub kept : SameFront (2 ^ suc m) xs ys
  pub tally : round_leaves m lower (word_of (2 ^ suc m) xs) ≤ left → (p : ℕ) → p < 2 ^ suc m
      → at ys (2 ^ suc m + p) ≡ pos (votes m lower (word_of (2 ^ suc m) xs) p)

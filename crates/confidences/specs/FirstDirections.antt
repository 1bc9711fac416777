-- A round on its way: what the first i directions come to. Assumes nothing.
use Prim.Native.Nat.{ℕ, suc}
use Rattle.std.specs.Prelude.{List, ℤ}
use Rattle.words.specs.Sum.{sum_below, sum_below_ℤ}
use Rattle.rule.specs.Reading.{Outcome, abstains, leaves_of}
use Rattle.confidences.specs.Confidences.{read, share}

-- of the first i directions: their sum at place p, how many abstained, and their leaves
module _ (m : ℕ) (lower : List ℤ → Outcome) (x : List ℤ) where
  abbrev pub sums_to : ℕ → ℕ → ℤ
  sums_to i p = sum_below_ℤ i (λ j. share (suc j) x (read m lower x j) p)

  abbrev pub abstained_to : ℕ → ℕ
  abstained_to i = sum_below i (λ j. abstains (read m lower x j))

  abbrev pub leaves_to : ℕ → ℕ
  leaves_to i = sum_below i (λ j. leaves_of (read m lower x j))

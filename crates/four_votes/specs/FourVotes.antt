-- Votes by blocks of 4 cosets: what the functions on them ask and promise. Assumes nothing.
use Rattle.std.specs.Prelude.{ℕ, ◌+◌, ◌*◌, ◌≤◌, ◌<◌, ◌≡◌, List, ℤ, ◌+ℤ◌, length}
use Rattle.std.specs.Int.Bits.{bit_xor}
use Rattle.area.specs.Area.{at, IsBit, four_of}
use Rattle.area.specs.Numbers.{Half}
use Rattle.cosets.specs.SetBelow.{Apart, TwoRuns}
use Rattle.projections.specs.Fours.{bit_sum, TwoBlocks, pair_sum}

-- four numbers that can be added to the entries of xs, in the order i XOR l
pub record Addends (l : ℕ) (a b c d : ℤ) (xs : List ℤ) : Type 0 where
  pub size : length xs ≡ 4
  pub low : l < 4
  pub few : (i : ℕ) → i < 4 → Half (at xs i)
  pub each : (i : ℕ) → i < 4 → Half (four_of a b c d i)

-- the cosets q to q + 3, with their members at p to p + 3 and z to z + 3: the decoded bits at 4 n + q, the votes at 2 n + p and 2 n + z
pub record FourVotes (n q p z l : ℕ) (xs : List ℤ) : Type 0 where
  pub bits : TwoBlocks (4 * n + q) p z l xs
  pub decoded : (i : ℕ) → i < 4 → IsBit (at xs (4 * n + q + i))
  pub apart : Apart 4 p z
  pub room_one : 2 * n + p + 4 ≤ length xs
  pub room_two : 2 * n + z + 4 ≤ length xs
  pub few_one : (i : ℕ) → i < 4 → Half (at xs (2 * n + p + i))
  pub few_two : (i : ℕ) → i < 4 → Half (at xs (2 * n + z + i))

-- the vote of coset q + i
abbrev pub four_vote : ℕ → ℕ → ℕ → ℕ → ℕ → List ℤ → ℕ → ℤ
four_vote n q p z l xs i = bit_sum (at xs (4 * n + q + i)) (pair_sum p z l xs i)

-- ys is xs with the four votes at both members
abbrev pub FourVoted : ℕ → ℕ → ℕ → ℕ → ℕ → List ℤ → List ℤ → Type 0
FourVoted n q p z l xs ys =
    TwoRuns (2 * n + p) (2 * n + z) 4
    (λ i. at xs (2 * n + p + i) +ℤ four_vote n q p z l xs i)
    (λ i. at xs (2 * n + z + i) +ℤ four_vote n q p z l xs (bit_xor i l))
    xs ys

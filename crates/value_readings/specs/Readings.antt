-- What a reading of confidences asks and promises. Assumes nothing.
use Rattle.std.specs.Prelude.{ℕ, ◌*◌, ◌^◌, ◌≤◌, ◌≡◌, List, length, ℤ}
use Rattle.rule.specs.Decoding.{limited}
use Rattle.told.specs.Told.{Read}
use Rattle.confidences.specs.Confidences.{reading, zero_place}
use Rattle.confidences.specs.Values.{Values}
use Rattle.value_orders.specs.Leaves.{place_in}
use Rattle.value_orders.specs.declared.ends.Ended.{Ended}

-- a reading may start on the values in the front
pub record Ready (m r left : ℕ) (xs : List ℤ) : Type 0 where
  pub some : 1 ≤ m
  pub small : m ≤ 10
  pub order : r ≤ m
  pub room : 4 * 2 ^ m ≤ length xs
  pub values : Values (2 ^ m) xs
  pub few : left ≤ 1000000

-- what a reading leaves, on the values x, with at most `left` leaves: its answer, the word, and the place
pub record ReadsValues (m r rounds left : ℕ) (x ys : List ℤ) (e : Ended) : Type 0 where
  pub read : Read (2 ^ m) (limited left (reading r m rounds x)) ys e.answer
  pub place : e.place ≡ place_in (limited left (reading r m rounds x)) (zero_place r m rounds x)

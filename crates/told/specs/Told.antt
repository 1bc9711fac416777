-- What a reading leaves and tells. Assumes nothing.
use Rattle.std.specs.Prelude.{ℕ, ◌≡◌, true, List, ℤ, Result, Ok, Err}
use Rattle.area.specs.Area.{Front, SameFront}
use Rattle.rule.specs.Reading.{Outcome, accepted, refused}
use Rattle.told.specs.declared.Noise.{Noise}
use Rattle.told.specs.declared.Noise.TheVariants.{Tie, Flipping, Unsettled, TooManyLeaves, Erased}
use Rattle.told.specs.declared.Accepted.{Accepted}
use Rattle.told.specs.declared.Unread.{Unread}
use Rattle.told.specs.declared.Told.{Told}

-- "9: tie at the order asked for, 0 or 1. 10: still flipping at the round limit. 11: settled on no codeword. 12: leaf limit too small."
-- Document 02, request 2: "17, a place ends with value 0 after the last round"
abbrev pub noise_number : Noise → ℕ
noise_number Tie = 9
noise_number Flipping = 10
noise_number Unsettled = 11
noise_number TooManyLeaves = 12
noise_number Erased = 17

-- a refusal's number, 0 where accepted; the rounds; the leaf count
pub data Numbers : Type 0 where
  numbers : ℕ → ℕ → ℕ → Numbers

abbrev pub numbers_of : Outcome → Numbers
numbers_of (accepted d k l) = numbers 0 k l
numbers_of (refused e k l) = numbers e k l

-- the code's answer
abbrev pub Verdict : Type 0
Verdict = Result Accepted Unread

-- accepted after k rounds and l leaves, and refused after them
abbrev pub as_accepted : ℕ → ℕ → Verdict
as_accepted k l = Ok (record { rounds = k; leaves = l })

abbrev pub as_refused : Noise → ℕ → ℕ → Verdict
as_refused why k l = Err (record { why = why; rounds = k; leaves = l })

-- the numbers of each case of the code's answer
abbrev pub numbers_in : Verdict → Numbers
numbers_in (Ok a) = numbers 0 a.rounds a.leaves
numbers_in (Err u) = numbers (noise_number u.why) u.rounds u.leaves

-- the decoded word stands in the first n numbers, where there is one
abbrev pub Holds : ℕ → Outcome → List ℤ → Type 0
Holds n (accepted d k l) ys = Front n d ys
Holds n (refused e k l) ys = Unit {0}

-- what a reading leaves, for the outcome o
pub record Read (n : ℕ) (o : Outcome) (ys : List ℤ) (a : Verdict) : Type 0 where
  pub said : numbers_in a ≡ numbers_of o
  pub word : Holds n o ys

-- where a reading says so, the first n numbers are after it what they were
pub record Kept (n : ℕ) (xs ys : List ℤ) (t : Told) : Type 0 where
  pub same : t.kept ≡ true → SameFront n xs ys

-- Document 01, "Refusals by who causes them": the numbers, and checks in order. Assumes nothing.
use Rattle.std.specs.Prelude.{Result, Ok, Err, ℕ, ◌≡◌, Bool, cond, ◌||◌, List, [], ◌∷◌, length, leb, ltb, eqb}
use Rattle.words.specs.Sum.{all_below}
use Rattle.words.specs.Word.{bit, lowest_bad}
use Rattle.refusals.specs.declared.Refusal.{Refusal}
use Rattle.refusals.specs.declared.Refusal.TheVariants.{Exponent, Order, RoundLimit, LeafLimit, InputLength, OutputLength, AreaLength, BadByte, Tie, Flipping, Unsettled, TooManyLeaves, NotCodeword, Profile, Header, Truncated, Erased, OutOfRange, TableFile, TableEntry, LoadStart, WrongPlaces, Meters, Retries, UnknownName, NamesFull, ArrayExponent, NotArray}
use Rattle.refusals.specs.declared.Accepted.{Accepted}
use Rattle.refusals.specs.declared.Refused.{Refused}

-- the document's number of each case
abbrev pub number_of : Refusal → ℕ
number_of Exponent = 1
number_of Order = 2
number_of RoundLimit = 3
number_of LeafLimit = 4
number_of InputLength = 5
number_of OutputLength = 6
number_of AreaLength = 7
number_of (BadByte p) = 8
number_of Tie = 9
number_of Flipping = 10
number_of Unsettled = 11
number_of TooManyLeaves = 12
number_of NotCodeword = 13
number_of Profile = 14
number_of Header = 15
number_of Truncated = 16
number_of (Erased p) = 17
number_of (OutOfRange p) = 18
number_of TableFile = 19
number_of (TableEntry i) = 20
number_of LoadStart = 21
number_of WrongPlaces = 22
number_of Meters = 23
number_of Retries = 24
number_of UnknownName = 25
number_of NamesFull = 26
number_of ArrayExponent = 27
number_of NotArray = 28

-- the place that a refusal names (20: the entry), 0 where it names none
abbrev pub place_of : Refusal → ℕ
place_of Exponent = 0
place_of Order = 0
place_of RoundLimit = 0
place_of LeafLimit = 0
place_of InputLength = 0
place_of OutputLength = 0
place_of AreaLength = 0
place_of (BadByte p) = p
place_of Tie = 0
place_of Flipping = 0
place_of Unsettled = 0
place_of TooManyLeaves = 0
place_of NotCodeword = 0
place_of Profile = 0
place_of Header = 0
place_of Truncated = 0
place_of (Erased p) = p
place_of (OutOfRange p) = p
place_of TableFile = 0
place_of (TableEntry i) = i
place_of LoadStart = 0
place_of WrongPlaces = 0
place_of Meters = 0
place_of Retries = 0
place_of UnknownName = 0
place_of NamesFull = 0
place_of ArrayExponent = 0
place_of NotArray = 0

-- what a call that gives nothing but its output answers
abbrev pub Answer : Type 0
Answer = Result Unit Refusal

-- what a decoding answers
abbrev pub Decoded : Type 0
Decoded = Result Accepted Refused

-- 0 where nothing is refused
abbrev pub answer_number : Answer → ℕ
answer_number (Ok tt) = 0
answer_number (Err why) = number_of why

-- 0 where nothing is refused
abbrev pub answer_place : Answer → ℕ
answer_place (Ok tt) = 0
answer_place (Err why) = place_of why

-- document 02, request 1: "8 names the smallest place whose byte is above 1": the place that an answer of this number to the input s names
unfoldable pub place_named : List ℕ → ℕ → ℕ
place_named s number = cond (eqb number 8) (lowest_bad s) 0

-- "After refusals 1 to 8 and 14 the area is untouched." Document 02: "untouched after 18", "After 27 the area is untouched".
abbrev pub area_kept : ℕ → Bool
area_kept number = leb number 8 || (eqb number 14 || (eqb number 18 || eqb number 27))

-- ---- checks, "in order of checking"

-- a test, and the number of the refusal where it fails
pub data Check : Type 0 where
  check : ℕ → Bool → Check

-- the number of the first check that fails, 0 where none does
unfoldable pub first_refusal : List Check → ℕ
first_refusal [] = 0
first_refusal (check n ok ∷ cs) = cond ok (first_refusal cs) n

-- "1: m outside 1 to 10. 2: r above m."
abbrev pub code_checks : ℕ → ℕ → List Check
code_checks m r = check 1 (leb 1 m) ∷ check 1 (leb m 10) ∷ check 2 (leb r m) ∷ []

unfoldable pub all_bits : List ℕ → Bool
all_bits s = all_below (length s) (λ p. ltb (bit s p) 2)

-- "8: a byte of the input above 1."
abbrev pub byte_checks : List ℕ → List Check
byte_checks s = check 8 (all_bits s) ∷ []

-- what a function that makes the checks cs of a call with the input s answers
pub record Checked (cs : List Check) (s : List ℕ) (a : Answer) : Type 0 where
  pub number : answer_number a ≡ first_refusal cs
  pub place : answer_place a ≡ place_named s (first_refusal cs)

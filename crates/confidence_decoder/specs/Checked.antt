-- What the checks of a call for confidences answer: document 02, request 2. Assumes nothing.
use Rattle.std.specs.Prelude.{ℕ, ◌≡◌, Bool, cond, List, [], ◌∷◌, eqb, leb, ℤ, nat_abs, length}
use Rattle.area.specs.Area.{at}
use Rattle.refusals.specs.Refusals.{Check, check, answer_number, answer_place, first_refusal, Answer}
use Rattle.confidences.specs.Answers.{lowest_outside}
use Rattle.confidences.specs.Confidences.{greatest}

-- "18, a confidence outside the range"
abbrev pub range_checks : List ℤ → List Check
range_checks x = check 18 (leb (length x) (lowest_outside x)) ∷ []

-- a value that passes it
abbrev pub is_inside : List ℤ → ℕ → Bool
is_inside x p = leb (nat_abs (at x p)) greatest

-- "lowest place named": of the checks' refusals only 18 names one
abbrev pub outside_place : List ℤ → ℕ → ℕ
outside_place x number = cond (eqb number 18) (lowest_outside x) 0

-- what a function that makes the checks cs of a call on the values x answers
pub record CheckedValues (cs : List Check) (x : List ℤ) (a : Answer) : Type 0 where
  pub number : answer_number a ≡ first_refusal cs
  pub place : answer_place a ≡ outside_place x (first_refusal cs)

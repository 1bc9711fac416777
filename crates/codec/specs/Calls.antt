-- What the calls of the encoder, the message reader and the codeword test promise. Assumes nothing.
use Rattle.std.specs.Prelude.{Result, Ok, Err, ℕ, ◌≡◌, Bool, cond, List, length, eqb}
use Rattle.refusals.specs.declared.Refusal.{Refusal}
use Rattle.refusals.specs.Refusals.{Answer, number_of, place_of, answer_number, answer_place, place_named, Check, first_refusal}
use Rattle.code.specs.Code.{codeword, codeword_test, message_of}
use Rattle.code.specs.TestSteps.{steps_test}
use Rattle.codec_checks.specs.Checks.{encode_checks, read_checks, test_checks}

-- what the codeword test answers
abbrev pub Tested : Type 0
Tested = Result Bool Refusal

-- "Every refusal leaves the output untouched."
abbrev pub output_of : ℕ → List ℕ → List ℕ → List ℕ
output_of number result before = cond (eqb number 0) result before

-- a call whose checks are cs and whose result is x: its input s, the output before and after, its answer a
pub record Calls (cs : List Check) (x s before after : List ℕ) (a : Answer) : Type 0 where
  pub number : answer_number a ≡ first_refusal cs
  pub place : answer_place a ≡ place_named s (first_refusal cs)
  pub output : after ≡ output_of (first_refusal cs) x before

abbrev pub Encodes : ℕ → ℕ → List ℕ → List ℕ → List ℕ → Answer → Type 0
Encodes m r message before after a = Calls (encode_checks m r message (length before)) (codeword m r message) message before after a

abbrev pub Reads : ℕ → ℕ → List ℕ → List ℕ → List ℕ → Answer → Type 0
Reads m r word before after a = Calls (read_checks m r word (length before)) (message_of m r word) word before after a

-- the codeword test's number, 0 where it is not refused, and its answer there
abbrev pub tested_number : Tested → ℕ
tested_number (Ok b) = 0
tested_number (Err why) = number_of why

abbrev pub tested_place : Tested → ℕ
tested_place (Ok b) = 0
tested_place (Err why) = place_of why

-- the answer is the definition's, and "the one these steps give"
pub record Tests (m r : ℕ) (word : List ℕ) (a : Tested) : Type 0 where
  pub number : tested_number a ≡ first_refusal (test_checks m r word)
  pub place : tested_place a ≡ place_named word (first_refusal (test_checks m r word))
  pub answer : first_refusal (test_checks m r word) ≡ 0 → a ≡ Ok (codeword_test m r word)
  pub steps : first_refusal (test_checks m r word) ≡ 0 → a ≡ Ok (steps_test m r word)

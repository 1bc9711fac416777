-- Demand 3: what it is that two answers agree, and that an answer is sound. Assumes nothing.
use Rattle.std.specs.Prelude.{ℕ, ◌<◌, ◌≡◌, List}
use Rattle.code.specs.Code.{IsCodeword}
use Rattle.rule.specs.Decoding.{answer_of, refusal_of, output_of}
use Rattle.rule.specs.Reading.{Outcome, accepted, refused}
use Rattle.words.specs.Word.{add_words}

-- an accepted word is a codeword, and no refusal has the number 0
abbrev pub Sound : ℕ → ℕ → Outcome → Type 0
Sound m r (accepted d k l) = IsCodeword m r d
Sound m r (refused e k l) = 0 < e

-- the answers x and y to the words w and w' of exponent m, which differ in nothing but c: "whether each call is accepted, the refusal's
-- number, the rounds and the leaf count as returned, and on acceptance all n output bytes"; document 02, request 3: the places mended too
pub record Agree (m : ℕ) (w w' c : List ℕ) (x y : Outcome) : Type 0 where
  pub answer : answer_of m w' y ≡ answer_of m w x
  pub output : refusal_of x ≡ 0 → (out out' : List ℕ) → output_of y out' ≡ add_words (output_of x out) c

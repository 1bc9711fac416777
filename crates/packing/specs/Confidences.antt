-- What the exported calls for confidences return: document 02, requests 2 and 3. Assumes nothing.
use Rattle.std.specs.Prelude.{ℕ, List, ℤ}
use Rattle.rule.specs.Reading.{Outcome}
use Rattle.rule.specs.Decoding.{refusal_of}
use Rattle.confidences.specs.Answers.{value_place}
use Rattle.confidences.specs.Confidences.{signs_of}
use Rattle.packing.specs.Packing.{ReturnsAnswer}

-- a decoding of the values x: 17 and 18 name a place, and what is mended is counted against the signs received
abbrev pub ReturnsValues : ℕ → ℕ → ℕ → Outcome → List ℤ → List ℕ → List ℕ → List ℤ → List ℤ → ℕ → Type 0
ReturnsValues m r rounds o x out out' area area' returned =
    ReturnsAnswer m o (signs_of m x) (value_place m r rounds x (refusal_of o)) out out' area area' returned

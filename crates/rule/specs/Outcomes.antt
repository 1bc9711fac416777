-- A reading's outcome: what is decoded in it, and what becomes of it when a codeword is added. Assumes nothing.
use Rattle.std.specs.Prelude.{ℕ, ◌≡◌, refl, List}
use Rattle.words.specs.Word.{add_words}
use Rattle.code.specs.Code.{IsCodeword}
use Rattle.rule.specs.Reading.{Outcome, accepted, refused, leaves_of}

-- what is decoded, plus c
abbrev pub shift : List ℕ → Outcome → Outcome
shift c (accepted d k l) = accepted (add_words d c) k l
shift c (refused e k l) = refused e k l

-- what is decoded is a codeword
abbrev pub CodewordIn : ℕ → ℕ → Outcome → Type 0
CodewordIn m r (accepted d k l) = IsCodeword m r d
CodewordIn m r (refused e k l) = Unit {0}

pub leaves_shift : (c : List ℕ) (o : Outcome) → leaves_of (shift c o) ≡ leaves_of o
leaves_shift c (accepted d k l) = refl
leaves_shift c (refused e k l) = refl

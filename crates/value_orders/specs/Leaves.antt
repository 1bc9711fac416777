-- What a leaf reading of values asks, leaves and tells. Assumes nothing.
use Rattle.std.specs.Prelude.{ℕ, ◌^◌, ◌≡◌, Bool, true, false, not, cond, ◌&&◌, List, eqb, ℤ, nat_abs}
use Rattle.words.specs.Sum.{all_below}
use Rattle.area.specs.Area.{at}
use Rattle.code.specs.Code.{codeword_test}
use Rattle.hadamard.specs.Correlation.{constant_of}
use Rattle.rule.specs.Reading.{Outcome, accepted, refused}
use Rattle.rule.specs.Decoding.{refusal_of}
use Rattle.told.specs.Told.{Holds}
use Rattle.confidences.specs.Confidences.{signs_of}
use Rattle.confidences.specs.Values.{Signs}

-- whether an outcome has a word
abbrev pub is_accepted : Outcome → Bool
is_accepted (accepted d k l) = true
is_accepted (refused e k l) = false

-- the word stands in the first n numbers by their signs, where there is one
abbrev pub HoldsSigns : ℕ → Outcome → List ℤ → Type 0
HoldsSigns n (accepted d k l) ys = Signs n 0 d ys
HoldsSigns n (refused e k l) ys = Unit {0}

-- what a leaf leaves, for the outcome o: whether it has a word, and the word
pub record Leaf (n : ℕ) (o : Outcome) (ys : List ℤ) (b : Bool) : Type 0 where
  pub said : b ≡ is_accepted o
  pub word : HoldsSigns n o ys

-- the same, where the word stands by its bits
pub record LeafBits (n : ℕ) (o : Outcome) (ys : List ℤ) (b : Bool) : Type 0 where
  pub said : b ≡ is_accepted o
  pub word : Holds n o ys

-- by its bits, or by its signs
abbrev pub LeafAs : Bool → ℕ → Outcome → List ℤ → Bool → Type 0
LeafAs true = LeafBits
LeafAs false = Leaf

-- the place that an outcome names, p being the lowest of value 0: of a reading's refusals only 17 names one
abbrev pub place_in : Outcome → ℕ → ℕ
place_in o p = cond (eqb (refusal_of o) 17) p 0

-- ---- values that are a codeword of order 1 already

-- the bit of the sign at a place
abbrev pub sign_at : List ℤ → ℕ → ℕ
sign_at xs p = constant_of (at xs p)

-- whether the value at a place is not 0
abbrev pub is_some : List ℤ → ℕ → Bool
is_some xs p = not (eqb (nat_abs (at xs p)) 0)

-- the signs are a codeword, and no value is 0
unfoldable pub clean_test : ℕ → List ℤ → Bool
clean_test m x = codeword_test m 1 (signs_of m x) && all_below (2 ^ m) (is_some x)

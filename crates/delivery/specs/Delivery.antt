-- What becomes of the decoded word, and what a call returns of what its reading told. Assumes nothing.
use Rattle.std.specs.Prelude.{ℕ, List, length, ℤ, Ok, Err}
use Rattle.words.specs.Word.{distance}
use Rattle.area.specs.Area.{Bits, word_of}
use Rattle.rule.specs.Decoding.{Values, values}
use Rattle.told.specs.Told.{noise_number, Verdict}
use Rattle.told.specs.declared.Noise.{Noise}
use Rattle.told.specs.declared.Noise.TheVariants.{Tie, Flipping, Unsettled, TooManyLeaves, Erased}

-- where a word of n bits was accepted, it stands in the front
abbrev pub Deliverable : ℕ → Verdict → List ℤ → Type 0
Deliverable n (Ok a) xs = Bits n xs
Deliverable n (Err u) xs = Unit {0}

-- the output after the word was delivered
abbrev pub delivered : Verdict → List ℕ → List ℤ → List ℕ
delivered (Ok a) out xs = word_of (length out) xs
delivered (Err u) out xs = out

-- what was told of the word w, of exponent m, with the output v
abbrev pub values_in : ℕ → List ℕ → List ℕ → Verdict → Values
values_in m w v (Ok a) = values 0 a.rounds a.leaves (distance m w v)
values_in m w v (Err u) = values (noise_number u.why) u.rounds u.leaves 0

-- the place that it names: document 02, request 2, "17, .. lowest place named", and that place is p
abbrev pub noise_place : ℕ → Noise → ℕ
noise_place p Tie = 0
noise_place p Flipping = 0
noise_place p Unsettled = 0
noise_place p TooManyLeaves = 0
noise_place p Erased = p

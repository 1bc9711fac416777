-- Answers packed in 64 bits. Assumes nothing.
use Rattle.std.specs.Prelude.{ℕ, ◌+◌, ◌*◌, ◌%◌, ◌≡◌, Bool, cond, List, eqb, ℤ, length, Ok, Err}
use Rattle.words.specs.Word.{indicator}
use Rattle.refusals.specs.Refusals.{Check, first_refusal, place_named}
use Rattle.gap.specs.Calls.{GapValues, gap_values, gap_call, gap_area}
use Rattle.codec.specs.Calls.{Tested}
use Rattle.codec.specs.Calls as codec
use Rattle.rule.specs.Reading.{Outcome}
use Rattle.rule.specs.Decoding.{Values, values, refusal_of, answer_of, output_of, area_of}

-- refusal or 0 in the lowest 8 bits, rounds in 8, leaf count in 24, mended places in 12, the place named in 12
abbrev pub pack : ℕ → ℕ → ℕ → ℕ → ℕ → ℕ
pack number rounds leaves mended place =
    number + rounds % 256 * 256 + leaves % 16777216 * 65536 + mended % 4096 * 1099511627776 + place % 4096 * 4503599627370496

-- 1 where the codeword test says yes
abbrev pub yes_of : Tested → ℕ
yes_of (Ok b) = indicator b
yes_of (Err why) = 0

-- what a decoding returns, with the place that it names
abbrev pub pack_values : Values → ℕ → ℕ
pack_values (values e k l c) place = pack e k l c place

-- what a call of the gap returns: the gap in the place of the leaf count
abbrev pub pack_gap : GapValues → ℕ
pack_gap (gap_values e g place) = pack e 0 g 0 place

-- ---- what the exported calls return

-- a call of the encoder or the message reader: its checks cs, its result x on the input s, the output before and after, what it returns
pub record Returns (cs : List Check) (x s before after : List ℕ) (returned : ℕ) : Type 0 where
  pub packed : returned ≡ pack (first_refusal cs) 0 0 0 (place_named s (first_refusal cs))
  pub output : after ≡ codec.output_of (first_refusal cs) x before

-- the codeword test of s: 1 in the rounds where it is a codeword
abbrev pub pack_test : List Check → List ℕ → Bool → ℕ
pack_test cs s is = pack (first_refusal cs) (cond (eqb (first_refusal cs) 0) (indicator is) 0) 0 0 (place_named s (first_refusal cs))

-- a decoding of a word of exponent m, whose outcome is o, which names the place p
pub record ReturnsAnswer (m : ℕ) (o : Outcome) (word : List ℕ) (p : ℕ) (out out' : List ℕ) (area area' : List ℤ) (returned : ℕ) : Type 0 where
  pub packed : returned ≡ pack_values (answer_of m word o) p
  pub output : out' ≡ output_of o out
  pub lent : area' ≡ area_of o area

-- of bits: only 8 names a place
abbrev pub ReturnsDecoded : ℕ → Outcome → List ℕ → List ℕ → List ℕ → List ℤ → List ℤ → ℕ → Type 0
ReturnsDecoded m o word out out' area area' returned = ReturnsAnswer m o word (place_named word (refusal_of o)) out out' area area' returned

-- a call of the gap
pub record ReturnsGap (m : ℕ) (word : List ℕ) (area area' : List ℤ) (returned : ℕ) : Type 0 where
  pub packed : returned ≡ pack_gap (gap_call m word (length area))
  pub lent : area' ≡ gap_area m word area

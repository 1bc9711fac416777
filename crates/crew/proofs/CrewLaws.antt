-- Laws of the crew's lines: a line is the same for words that differ by a codeword, and how long its numbers are. Assumes nothing.
use Rattle.std.specs.Prelude.{ℕ, ◌^◌, ◌≤◌, ◌<◌, ◌≡◌, refl, Bool, true, false, cond, List, ◌++◌, eqb, length}
use Rattle.std.proofs.Common.{lt_of_lt_of_le, arith, ap, lit≤}
use Rattle.std.proofs.Math.Path.{ap₂}
use Rattle.words.specs.Word.{IsWord, add_words}
use Rattle.code.specs.Code.{IsCodeword}
use Rattle.profiles.specs.declared.Profile.{Profile}
use Rattle.rule.specs.Reading.{Outcome, accepted, refused}
use Rattle.rule.specs.Decoding.{Values, answer_of}
use Rattle.rule.specs.Demand3.{Sound}
use Rattle.rule.proofs.Demand3.{decode_sound, demand_3}
use Rattle.text.specs.Numbers.{ten_digits}
use Rattle.text.specs.TextLaws.{decimal-length, ten_length}
use Rattle.lines.specs.Lines.{accepted_in, decoded_by, entry, hyphens, record_entry}
use Rattle.crew.specs.Crew.{crew, crew_line, numbers_text, serial_text, spaced}

same_accepted : (m r : ℕ) (w w' : List ℕ) (x y : Outcome) → Sound m r x → Sound m r y → answer_of m w' y ≡ answer_of m w x → accepted_in y ≡ accepted_in x
same_accepted m r w w' (accepted d k l) (accepted d' k' l') hx hy e = refl
same_accepted m r w w' (accepted d k l) (refused n k' l') hx hy e = let z : n ≡ 0 = cc in absurd (omega arith)
same_accepted m r w w' (refused n k l) (accepted d k' l') hx hy e = let z : 0 ≡ n = cc in absurd (omega arith)
same_accepted m r w w' (refused n k l) (refused n' k' l') hx hy e = refl

-- "whose blocks differ by codewords, must give the crew the same bytes": of one record
module _ (serial number : ℕ) (p : Profile) (w w' : List ℕ) (hw : IsWord p.m w) (hw' : IsWord p.m w') (hc : IsCodeword p.m p.r (add_words w w')) where
  same_answer : answer_of p.m w' (decoded_by p w') ≡ answer_of p.m w (decoded_by p w)
  same_answer = (demand_3 p.m p.r p.rounds p.leaves w w' hc hw hw').answer

  pub line_same : crew_line serial number p w' (decoded_by p w') ≡ crew_line serial number p w (decoded_by p w)
  line_same = ap (λ (v : Values). ten_digits serial ++ numbers_text number v) same_answer

  pub entry_same : record_entry crew serial number p w' ≡ record_entry crew serial number p w
  unfolding record_entry
  entry_same =
      ap₂ entry line_same
      (same_accepted p.m p.r w w' (decoded_by p w) (decoded_by p w') (decode_sound p.m p.r p.rounds p.leaves w hw)
      (decode_sound p.m p.r p.rounds p.leaves w' hw') same_answer)

-- ten digits or ten hyphens
pub serial_length : (number serial : ℕ) → length (serial_text number serial) ≡ 10
serial_length number serial = go (eqb number 16)
  where
    go : (b : Bool) → length (cond b hyphens (ten_digits serial)) ≡ 10
    go true = omega arith
    go false = ten_length serial

-- a number of 64 bits
pub spaced-length : (n : ℕ) → n < 2 ^ 64 → length (spaced n) ≤ 21
spaced-length n h = omega (arith, decimal-length 19 n (lt_of_lt_of_le h (lit≤ tt)))

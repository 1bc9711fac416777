-- What a call of `gap` promises. Assumes nothing.
use Rattle.std.specs.Prelude.{Result, Ok, Err, ℕ, ◌*◌, ◌^◌, ◌≡◌, cond, List, ◌∷◌, eqb, leb, ℤ, length}
use Rattle.refusals.specs.declared.Refusal.{Refusal}
use Rattle.refusals.specs.Refusals.{Check, byte_checks, check, first_refusal, number_of, place_named, place_of}
use Rattle.rule.specs.Decoding.{zeros}
use Rattle.gap.specs.Gap.{gap_of}

-- what a call answers: the gap, or why it is refused
abbrev pub Measured : Type 0
Measured = Result ℕ Refusal

-- "Bad calls get the decoder's 1, 5, 7 and 8."
abbrev pub gap_checks : ℕ → List ℕ → ℕ → List Check
gap_checks m word area =
    check 1 (leb 1 m) ∷ check 1 (leb m 10) ∷ check 5 (eqb (length word) (2 ^ m)) ∷ check 7 (leb (8 * 2 ^ m) area) ∷ byte_checks word

-- a refusal's number, 0 where there is a gap; the gap; the place that 8 names
pub data GapValues : Type 0 where
  gap_values : ℕ → ℕ → ℕ → GapValues

abbrev pub gap_in : GapValues → ℕ
gap_in (gap_values e g p) = g

-- the values of each case of the code's answer
abbrev pub measured_values : Measured → GapValues
measured_values (Ok g) = gap_values 0 g 0
measured_values (Err why) = gap_values (number_of why) 0 (place_of why)

-- the values of any call, with an area of `area` numbers
unfoldable pub gap_call : ℕ → List ℕ → ℕ → GapValues
gap_call m word area =
    let e : ℕ = first_refusal (gap_checks m word area) in
    cond (eqb e 0) (gap_values 0 (gap_of m word) 0) (gap_values e 0 (place_named word e))

-- "After refusals 1 to 8 and 14 the area is untouched. After every other return, all of it is zero."
abbrev pub gap_area : ℕ → List ℕ → List ℤ → List ℤ
gap_area m word area = cond (eqb (first_refusal (gap_checks m word (length area))) 0) (zeros area) area

-- a call's answer a, and the area before and after
pub record Measures (m : ℕ) (word : List ℕ) (area area' : List ℤ) (a : Measured) : Type 0 where
  pub answer : measured_values a ≡ gap_call m word (length area)
  pub lent : area' ≡ gap_area m word area

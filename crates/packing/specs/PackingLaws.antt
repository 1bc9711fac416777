-- What is returned, from the core's contracts. Assumes nothing.
use Rattle.std.specs.Prelude.{ℕ, ◌≡◌, refl, Bool, true, false, cond, List, eqb, ℤ, Ok, Err}
use Rattle.std.proofs.Common.{sym, ap, ap₂, ◌∙◌, eqb-true}
use Rattle.std.proofs.lemmas.Bool.{eqb-false}
use Rattle.words.specs.Word.{indicator}
use Rattle.refusals.specs.Refusals.{Answer, Decoded, Check, answer_number, answer_place, first_refusal, place_named}
use Rattle.code.specs.Code.{codeword_test}
use Rattle.codec_checks.specs.Checks.{test_checks}
use Rattle.codec.specs.Calls.{Tested, Calls, Tests, tested_number, tested_place}
use Rattle.rule.specs.Reading.{Outcome}
use Rattle.rule.specs.Calls.{Answers, decoded_place, values_of}
use Rattle.gap.specs.Calls.{Measured, Measures, measured_values}
use Rattle.packing.specs.Packing.{pack, pack_gap, pack_test, pack_values, yes_of, Returns, ReturnsAnswer, ReturnsGap}

pub call_returns : {cs : List Check} {x s before after : List ℕ} {a : Answer} {v : ℕ}
    → Calls cs x s before after a → v ≡ pack (answer_number a) 0 0 0 (answer_place a) → Returns cs x s before after v
call_returns c e = record { packed = e ∙ ap₂ (λ (n p : ℕ). pack n 0 0 0 p) c.number c.place; output = c.output }

pub decoding_returns : {m : ℕ} {o : Outcome} {word : List ℕ} {p : ℕ} {out out' : List ℕ} {area area' : List ℤ} {d : Decoded} {v : ℕ}
    → Answers m o word p out out' area area' d → v ≡ pack_values (values_of d) (decoded_place d) → ReturnsAnswer m o word p out out' area area' v
decoding_returns c e = record { packed = e ∙ ap₂ pack_values c.answer c.place; output = c.output; lent = c.lent }

pub gap_returns : {m : ℕ} {word : List ℕ} {area area' : List ℤ} {a : Measured} {v : ℕ}
    → Measures m word area area' a → v ≡ pack_gap (measured_values a) → ReturnsGap m word area area' v
gap_returns c e = record { packed = e ∙ ap pack_gap c.answer; lent = c.lent }

-- where the test is refused it says nothing
refused_no : (a : Tested) → (tested_number a ≡ 0 → ⊥) → yes_of a ≡ 0
refused_no (Ok b) h = absurd (h refl)
refused_no (Err why) h = refl

module _ {m r : ℕ} {word : List ℕ} {a : Tested} (t : Tests m r word a) where
  abbrev n : ℕ
  n = first_refusal (test_checks m r word)

  yes_is : yes_of a ≡ cond (eqb n 0) (indicator (codeword_test m r word)) 0
  yes_is = go (eqb n 0) refl
    where
      go : (b : Bool) → eqb n 0 ≡ b → yes_of a ≡ cond b (indicator (codeword_test m r word)) 0
      go true e = ap yes_of (t.answer (eqb-true n 0 e))
      go false e = refused_no a (λ z. eqb-false n 0 e (sym t.number ∙ z))

  pub test_returns : {v : ℕ} → v ≡ pack (tested_number a) (yes_of a) 0 0 (tested_place a) → v ≡ pack_test (test_checks m r word) word (codeword_test m r word)
  test_returns e =
      e ∙ ap₂ (λ (k p : ℕ). pack k (yes_of a) 0 0 p) t.number t.place
      ∙ ap (λ (y : ℕ). pack n y 0 0 (place_named word n)) yes_is

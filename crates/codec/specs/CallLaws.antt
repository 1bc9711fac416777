-- A call's contract from its checks, and what it says where they pass. Assumes nothing.
use Rattle.std.specs.Prelude.{ℕ, ◌≡◌, List, Ok, Err}
use Rattle.std.proofs.Common.{arith, sym, ap, ◌∙◌, ne_eqb}
use Rattle.refusals.specs.declared.Refusal.{Refusal}
use Rattle.refusals.specs.Refusals.{Answer, Check, Checked, number_of, answer_number, answer_place, place_named, first_refusal}
use Rattle.refusals.proofs.CheckLaws.{done_of, number_pos, other_place}
use Rattle.code.proofs.TestStepLaws.{steps_test_lem}
use Rattle.code.specs.TestSteps.{steps_test}
use Rattle.codec_checks.specs.Checks.{test_checks}
use Rattle.codec_checks.specs.Passed.{test_passed}
use Rattle.codec.specs.Calls.{Calls, Tests, Tested}

-- a call that is not refused names no place
no_place : {n : ℕ} (s : List ℕ) → 0 ≡ n → 0 ≡ place_named s n
no_place s e = rw (← e) (sym (other_place s 0 (λ z. omega arith)))

pub call_refused :
    {cs : List Check} {s : List ℕ} {why : Refusal} (x before : List ℕ) {after : List ℕ} → Checked cs s (Err why) → after ≡ before
    → Calls cs x s before after (Err why)
call_refused {cs} {why = why} x before c h = record {
  number = c.number;
  place = c.place;
  output = rw (sym c.number, ne_eqb (number_of why) 0 (λ e. omega (arith, number_pos why))) h;
}

pub call_done : {cs : List Check} (s x before : List ℕ) {after : List ℕ} → 0 ≡ first_refusal cs → after ≡ x → Calls cs x s before after (Ok tt)
call_done s x before e h = record { number = e; place = no_place s e; output = rw (← e) h }

-- a call whose checks pass
pub call_passed : {cs : List Check} {x s before after : List ℕ} {a : Answer} → Calls cs x s before after a → 0 ≡ first_refusal cs → (a ≡ (Ok tt)) × (after ≡ x)
call_passed {a = a} c e = (done_of a (c.number ∙ sym e), c.output ∙ rw (← e))

pub test_refused : {m r : ℕ} {word : List ℕ} {a : Answer} {why : Refusal} → Checked (test_checks m r word) word a → a ≡ Err why → Tests m r word (Err why)
test_refused {m} {r} {word} {a} {why} c e = record {
  number = ap answer_number (sym e) ∙ c.number;
  place = ap answer_place (sym e) ∙ c.place;
  answer = λ z. absurd (omega (arith, number_pos why, ap answer_number e, c.number));
  steps = λ z. absurd (omega (arith, number_pos why, ap answer_number e, c.number));
}

pub test_done : {m r : ℕ} {word : List ℕ} {a : Tested} → 0 ≡ first_refusal (test_checks m r word) → a ≡ Ok (steps_test m r word) → Tests m r word a
test_done {m} {r} {word} {a} e h = record {
  number = rw h e;
  place = rw h (no_place word e);
  answer = λ z. h ∙ ap Ok (steps_test_lem m r word (test_passed m r word z).1);
  steps = λ z. h;
}

-- A call's answer from its checks and its reading. Assumes nothing.
use Rattle.std.specs.Prelude.{ℕ, ◌+◌, ◌≤◌, ◌≡◌, refl, true, List, ◌++◌, length, ℤ, Ok, Err}
use Rattle.std.proofs.Common.{sym, ap, ◌∙◌, arith, pow_mono}
use Rattle.refusals.proofs.CheckLaws.{all_kept, first_kept, number_pos}
use Rattle.refusals.specs.Refusals.{Check, Checked, answer_number, answer_place, first_refusal, number_of, Answer}
use Rattle.refusals.specs.declared.Refusal.{Refusal}
use Rattle.rule.specs.Decoding.{after}
use Rattle.rule.proofs.DecodingLaws.{after_cases}
use Rattle.rule.specs.Reading.{Outcome}
use Rattle.arrays.proofs.ArrayCalls.{all_passed, array_sized}
use Rattle.arrays.specs.Arrays.{array_buffers, array_limits}
use Rattle.array_decoder.specs.Calls.{ArrayDecoded, DecodesArray}
use Rattle.array_decoder.specs.Asked.{CallAsks}

module _ {cs : List Check} {word : List ℕ} {a : Answer} (checked : Checked cs word a) where
  pub call_refused : {why : Refusal} (o : Outcome) (out : List ℕ) (xs : List ℤ) → all_kept cs ≡ true → a ≡ Err why
      → DecodesArray (after cs o) word out out xs xs (Err record { why = why; leaves = 0 })
  call_refused {why} o out xs all e =
      let n : first_refusal cs ≡ number_of why = sym checked.number ∙ ap answer_number e in
      after_cases cs o (λ (x : Outcome). DecodesArray x word out out xs xs (Err record { why = why; leaves = 0 }))
      (λ z. absurd (omega (arith, number_pos why)))
      (λ some. record { number = sym n; leaves = refl; place = ap answer_place (sym e) ∙ checked.place; output = refl; lent = sym (rw (first_kept cs all some)) })

  checks_done : a ≡ (Ok tt) → first_refusal cs ≡ 0
  checks_done e = sym checked.number ∙ ap answer_number e

  pub call_read : {o : Outcome} {out out' : List ℕ} {xs ys : List ℤ} {d : ArrayDecoded} → a ≡ (Ok tt) → DecodesArray o word out out' xs ys d
      → DecodesArray (after cs o) word out out' xs ys d
  call_read {o} {out} {out'} {xs} {ys} {d} e h =
      after_cases cs o (λ (x : Outcome). DecodesArray x word out out' xs ys d) (λ z. h) (λ some. absurd (omega (arith, checks_done e)))

-- what the checks make sure of
pub call_asks : (mr rr mc rc rounds leaves : ℕ) {word : List ℕ} {room area : ℕ} {a : Answer} {copy : ℕ}
    → Checked (array_limits mr rr mc rc rounds leaves ++ array_buffers mr mc word room area) word a → a ≡ (Ok tt) → copy ≡ length word
    → CallAsks mr rr mc rc rounds leaves word copy room area
call_asks mr rr mc rc rounds leaves {word} {room} {area} checked e same =
    let p = all_passed mr rr mc rc rounds leaves (array_buffers mr mc word room area) (checks_done checked e) in
    record { passed = p.0; sizes = array_sized p.1; same = same }

pub array_fits : {mr rr mc rc rounds leaves : ℕ} {word : List ℕ} {copy room area : ℕ} → CallAsks mr rr mc rc rounds leaves word copy room area → length word ≤ 4096
array_fits {mr} {rr} {mc} h =
    omega (arith, h.sizes.input.size, pow_mono {i = mc + mr} {j = 12} (omega (arith, h.passed.across.most, h.passed.down.most)))

-- Two calls, from what each promises. Assumes nothing.
use Rattle.std.specs.Prelude.{ℕ, ◌+◌, ◌≡◌, refl, List, length, ℤ}
use Rattle.std.proofs.Common.{sym, ap, ◌∙◌, arith}
use Rattle.words.specs.Word.{IsWord, add_words}
use Rattle.rule.specs.Decoding.{output_of, refusal_of}
use Rattle.rule.specs.Outcomes.{shift, leaves_shift}
use Rattle.rule.specs.Reading.{Outcome, accepted, leaves_of, refused}
use Rattle.arrays.specs.ArraySizes.{RightArray, Sound}
use Rattle.arrays.proofs.ArrayCalls.{arrays_alike, call_sound}
use Rattle.arrays.specs.Arrays.{array_call}
use Rattle.array_decoder.specs.Calls.{ArrayDecoded, DecodesArray}
use Rattle.array_decoder.specs.Alike.{AlikeArrays, DifferArrays, FitArray}

number_shift : (c : List ℕ) (o : Outcome) → refusal_of (shift c o) ≡ refusal_of o
number_shift c (accepted d k l) = refl
number_shift c (refused e k l) = refl

output_shift : (mr rr mc rc : ℕ) (c out out' : List ℕ) (o : Outcome) → Sound mr rr mc rc o → refusal_of o ≡ 0 → output_of (shift c o) out' ≡ add_words (output_of o out) c
output_shift mr rr mc rc c out out' (accepted d k l) h e = refl
output_shift mr rr mc rc c out out' (refused n k l) h e = absurd (omega arith)

sizes : {mr mc : ℕ} {w out : List ℕ} {area : List ℤ} → IsWord (mc + mr) w → FitArray mr mc out area → RightArray mr mc w (length out) (length area)
sizes word fit = record { input = word; output = fit.output; lent = fit.lent }

pub calls_alike : (mr rr mc rc rounds leaves : ℕ) {w w' out out' v v' : List ℕ} {area area' xs xs' : List ℤ} {a a' : ArrayDecoded}
    → DecodesArray (array_call mr rr mc rc rounds leaves w (length out) (length area)) w out v area xs a
    → DecodesArray (array_call mr rr mc rc rounds leaves w' (length out') (length area')) w' out' v' area' xs' a'
    → DifferArrays mr rr mc rc w w' → FitArray mr mc out area → FitArray mr mc out' area' → AlikeArrays w w' v v' a a'
calls_alike mr rr mc rc rounds leaves {w} {w'} {out} {out'} {v} {v'} {area} {area'} one two d f f' =
    let c : List ℕ = add_words w w' in
    let o : Outcome = array_call mr rr mc rc rounds leaves w (length out) (length area) in
    let e = arrays_alike mr rr mc rc rounds leaves (sizes d.first f) (sizes d.second f') d.array in
    record {
      number = two.number ∙ ap refusal_of e ∙ number_shift c o ∙ sym one.number;
      leaves = two.leaves ∙ ap leaves_of e ∙ leaves_shift c o ∙ sym one.leaves;
      output = λ z. two.output ∙ ap (λ (x : Outcome). output_of x out') e
          ∙ output_shift mr rr mc rc c out out' o (call_sound mr rr mc rc rounds leaves w (length out) (length area)) (sym one.number ∙ z)
          ∙ ap (λ (x : List ℕ). add_words x c) (sym one.output);
    }

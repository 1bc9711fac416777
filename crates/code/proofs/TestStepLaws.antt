-- The steps of the codeword test give the definition's answer, at every exponent and order. Assumes nothing.
use Rattle.std.specs.Prelude.{ℕ, zero, suc, ◌-◌, ◌^◌, ◌≤◌, ◌≡◌, refl, true, ◌&&◌, List, ◌≢◌}
use Rattle.std.proofs.Common.{sym, ap, ap₂, ◌∙◌, arith, eq-eqb, ne_eqb}
use Rattle.std.proofs.Math.Bool.{and_comm}
use Rattle.std.proofs.Math.Decide.{ℕ_discrete}
use Rattle.code.specs.Code.{codeword_test}
use Rattle.code.proofs.Codewords.{test_of_codeword}
use Rattle.code.proofs.FirstOrderLaws.{test_equal, test_halves}
use Rattle.code.proofs.Halves.{codeword_full, word_first, word_sum}
use Rattle.code.specs.TestSteps.{all_equal, first_half, steps_test, sum_halves}
use Rattle.words.specs.Sum.{total}
use Rattle.words.specs.Word.{IsWord, bit}

-- ---- each step

pub steps_zero : (m : ℕ) (w : List ℕ) → steps_test m 0 w ≡ all_equal (2 ^ m) w
unfolding steps_test total
steps_zero zero w = sym (eq-eqb (bit w 0) (bit w 0) refl)
steps_zero (suc m) w = refl

pub steps_full : (m : ℕ) (w : List ℕ) → steps_test m m w ≡ true
unfolding steps_test
steps_full zero w = refl
steps_full (suc m) w = rw (ne_eqb (suc m) 0 (λ e. omega arith), eq-eqb (suc m) (suc m) refl)

pub steps_halves : (m r : ℕ) (w : List ℕ) → r ≢ 0 → r ≢ suc m → steps_test (suc m) r w ≡ steps_test m (r - 1) (sum_halves m w) && steps_test m r (first_half m w)
unfolding steps_test
steps_halves m r w some other = rw (ne_eqb r 0 some, ne_eqb r (suc m) other)

-- ---- all of them

-- at r = m, and above, every word is a codeword
test_full : (m r : ℕ) (w : List ℕ) → m ≤ r → IsWord m w → codeword_test m r w ≡ true
test_full m r w l hw = test_of_codeword m r w (codeword_full m r w l hw)

pub steps_test_lem : (m r : ℕ) (w : List ℕ) → IsWord m w → steps_test m r w ≡ codeword_test m r w
unfolding steps_test
steps_test_lem zero r w hw = sym (test_full zero r w (omega arith) hw)
steps_test_lem (suc m) zero w hw = steps_zero (suc m) w ∙ test_equal (suc m) w hw
steps_test_lem (suc m) (suc r) w hw = elim (ℕ_discrete (suc r) (suc m)) [
  | yes e ↦ ap (λ (x : ℕ). steps_test x (suc r) w) (sym e) ∙ steps_full (suc r) w ∙ sym (test_full (suc m) (suc r) w (omega arith) hw)
  | no k ↦
      steps_halves m (suc r) w (λ e. omega arith) k
      ∙ ap (λ (x : ℕ). steps_test m x (sum_halves m w) && steps_test m (suc r) (first_half m w)) (omega arith)
      ∙ ap₂ ◌&&◌ (steps_test_lem m r (sum_halves m w) (word_sum m w hw)) (steps_test_lem m (suc r) (first_half m w) (word_first m w hw))
      ∙ and_comm (codeword_test m r (sum_halves m w)) (codeword_test m (suc r) (first_half m w))
      ∙ test_halves m w hw r
]

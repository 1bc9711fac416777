-- The codeword test by halves, and at order 1 level by level: each half goes on as the one below it, or as its complement.
-- Assumes nothing.
use Rattle.std.specs.Prelude.{ℕ, zero, suc, ◌+◌, ◌%◌, ◌^◌, ◌≤◌, ◌<◌, ◌≡◌, Bool, true, false, ◌&&◌, List, eqb}
use Rattle.std.proofs.Math.Path.{refl}
use Rattle.std.proofs.Common.{sym, ap, ap₂, ◌∙◌, arith, pow_pos}
use Rattle.std.proofs.Math.Bool.{and-false}
use Rattle.std.proofs.Math.Decide.{le_ind}
use borrow.Author.Tests.{eqb-true, eq-eqb}
use Rattle.code.specs.Code.{codeword_test}
use Rattle.code.proofs.Codewords.{codeword_of_test, codeword_of_low, low_of_codeword, test_of_codeword}
use Rattle.code.specs.Degree.{low_parity}
use Rattle.code.specs.Affine.{constant_of_low, low_constant}
use Rattle.code.proofs.Halves.{bit_first, bit_sum, word_first, word_sum, codeword_first, codeword_sum, codeword_join, codeword_full}
use Rattle.code.specs.TestSteps.{all_equal, first_half, sum_halves}
use Rattle.words.specs.Sum.{all_below, total}
use Rattle.words.specs.SumLaws.{all_ext, all_true, true_all, both_true, same_test}
use Rattle.words.specs.Word.{IsWord, bit}
use Rattle.code.specs.FirstOrder.{repeats, levels_test}

true_both : (a b : Bool) → a ≡ true → b ≡ true → a && b ≡ true
true_both a b ea eb = rw (ea, eb) refl

-- a codeword exactly when its first half is one of the same order and the sum of its halves one of an order less
module _ (m : ℕ) (w : List ℕ) (hw : IsWord (suc m) w) where
  pub test_halves : (r : ℕ) → codeword_test m (suc r) (first_half m w) && codeword_test m r (sum_halves m w) ≡ codeword_test (suc m) (suc r) w
  test_halves r =
      same_test _ _
      (λ e. let both = both_true _ _ e in
      test_of_codeword (suc m) (suc r) w
      (codeword_join m w hw r
      (codeword_of_test m (suc r) _ (word_first m w hw) both.0)
      (codeword_of_test m r _ (word_sum m w hw) both.1)))
      (λ e. let c = codeword_of_test (suc m) (suc r) w hw e in
      true_both _ _
      (test_of_codeword m (suc r) _ (codeword_first m w hw (suc r) c))
      (test_of_codeword m r _ (codeword_sum m w hw r c)))

-- at order 0 all bits are equal
pub test_equal : (m : ℕ) (w : List ℕ) → IsWord m w → all_equal (2 ^ m) w ≡ codeword_test m 0 w
test_equal m w hw =
    same_test (all_below (2 ^ m) same) _
    (λ e. test_of_codeword m 0 w
    (codeword_of_low hw (low_parity (low_constant m (bit w 0)) (bit w)
    (λ p l. ap (λ (x : ℕ). x % 2) (sym (eqb-true _ _ (all_true (2 ^ m) same e p l)))))))
    (λ e. true_all (2 ^ m) same
    (λ p l. eq-eqb (bit w p) (bit w 0)
    (omega (arith, constant_of_low m (bit w) (low_of_codeword (codeword_of_test m 0 w hw e)) p l, hw.bits p, hw.bits 0))))
  where
    same : ℕ → Bool
    same i = eqb (bit w i) (bit w 0)

-- f has the bits of the word w
pub levels_test_lem : (m : ℕ) (w : List ℕ) (f : ℕ → ℕ) → IsWord m w → ((p : ℕ) → p < 2 ^ m → f p ≡ bit w p) → levels_test m f ≡ codeword_test m 1 w
unfolding levels_test repeats
levels_test_lem zero w f hw same = sym (test_of_codeword 0 1 w (codeword_full 0 1 w (omega arith) hw))
levels_test_lem (suc m) w f hw same =
    ap₂ ◌&&◌
    (levels_test_lem m (first_half m w) f (word_first m w hw) (λ p l. same p (omega arith) ∙ sym (bit_first m w hw p l)))
    (repeats_constant ∙ test_equal m (sum_halves m w) (word_sum m w hw))
    ∙ test_halves m w hw 0
  where
    sum_is : (p q : ℕ) → p < 2 ^ m → q ≡ 2 ^ m + p → (f p + f q) % 2 ≡ bit (sum_halves m w) p
    sum_is p q l e = rw e (ap₂ (λ (x y : ℕ). (x + y) % 2) (same p (omega arith)) (same (2 ^ m + p) (omega arith))) ∙ sym (bit_sum m w hw p l)

    repeats_constant : repeats f (2 ^ m) ≡ all_equal (2 ^ m) (sum_halves m w)
    repeats_constant =
        all_ext (2 ^ m) _ _ (λ i l. ap₂ eqb (sum_is i (2 ^ m + i) l refl) (sum_is 0 (2 ^ m) (pow_pos m) (omega arith)))

-- ---- as loops make the test

module _ (f : ℕ → ℕ) where
  pub levels_next : (k : ℕ) → levels_test k f ≡ true → repeats f (2 ^ k) ≡ true → levels_test (suc k) f ≡ true
  unfolding levels_test
  levels_next k e r = true_both (levels_test k f) (repeats f (2 ^ k)) e r

  -- where k levels fail, so do more
  pub levels_fail : (m k : ℕ) → k ≤ m → levels_test k f ≡ false → levels_test m f ≡ false
  unfolding levels_test
  levels_fail m k l e = le_ind (λ (j : ℕ). levels_test j f ≡ false) e (λ j h i. rw i refl) m l

  -- a level that fails
  pub levels_stop : (m k : ℕ) → k < m → repeats f (2 ^ k) ≡ false → levels_test m f ≡ false
  unfolding levels_test
  levels_stop m k l e = levels_fail m (suc k) l (rw e (and-false (levels_test k f)))

  -- a level of one bit passes
  pub repeats_one : repeats f 1 ≡ true
  unfolding repeats total
  repeats_one = eq-eqb ((f 0 + f 1) % 2) _ refl

  -- the first three levels
  pub levels_three : (repeats f 1 && repeats f 2) && repeats f 4 ≡ levels_test 3 f
  unfolding levels_test
  levels_three = refl

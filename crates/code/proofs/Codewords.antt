-- Words as lists: sums, codewords as words of low degree, the codeword test. Assumes nothing.
use Rattle.std.specs.Prelude.{ℕ, suc, ◌+◌, ◌%◌, ◌^◌, ◌<◌, ◌≡◌, true, cond, List, leb, eqb, length}
use Rattle.std.proofs.Common.{sym, ap, ◌∙◌, arith, eqb-true, eq-eqb, le-leb}
use Rattle.std.proofs.lemmas.Bool.{lt-leb}
use Rattle.std.proofs.Math.Decide.{dec_le}
use Rattle.code.specs.Code.{IsCodeword, codeword_test, coefficient, degree, low_test}
use Rattle.code.specs.Degree.{Low, ◌⊕◌, coef, coef_parity, coef_plus, low_parity, low_plus}
use Rattle.words.specs.SumLaws.{all_ext, all_true, true_all}
use Rattle.words.specs.Word.{IsWord, add_words, bit}
use Rattle.words.proofs.WordLaws.{bit-add, word_add}

-- ---- codewords

pub low_of_codeword : {m r : ℕ} {w : List ℕ} → IsCodeword m r w → Low m (suc r) (bit w)
unfolding coefficient coef
low_of_codeword c = record { high = λ A h_a d. c.low A h_a d }

pub codeword_of_low : {m r : ℕ} {w : List ℕ} → IsWord m w → Low m (suc r) (bit w) → IsCodeword m r w
unfolding coefficient coef
codeword_of_low h low = record { word = h; low = λ A h_a d. low.high A h_a d }

pub codeword_add : (m r : ℕ) (u v : List ℕ) → IsCodeword m r u → IsCodeword m r v → IsCodeword m r (add_words u v)
codeword_add m r u v hu hv =
    codeword_of_low (word_add hu.word hv.word)
    (low_parity (low_plus (low_of_codeword hu) (low_of_codeword hv)) (bit (add_words u v))
    (λ p l. omega (arith, bit-add u v (hu.word.size ∙ sym hv.word.size) p)))

pub coefficient-lt : (m : ℕ) (w : List ℕ) (A : ℕ) → coefficient m w A < 2
unfolding coefficient
coefficient-lt m w A = omega arith

pub coefficient-add : (m : ℕ) (u v : List ℕ) → length u ≡ length v → (A : ℕ) → coefficient m (add_words u v) A ≡ (coefficient m u A + coefficient m v A) % 2
unfolding coefficient coef
coefficient-add m u v e A =
    coef_parity m (bit (add_words u v)) (bit u ⊕ bit v) A (λ p l. omega (arith, bit-add u v e p)) ∙ coef_plus m (bit u) (bit v) A

-- ---- the codeword test

-- the test of one mask of degree d and coefficient x: d is at most r, or x is 0
one_true : (d r x : ℕ) → cond (leb d r) true (eqb x 0) ≡ true → r < d → x ≡ 0
one_true d r x e l = eqb-true x 0 (rw (lt-leb d r l) at e)

true_one : (d r x : ℕ) → (r < d → x ≡ 0) → cond (leb d r) true (eqb x 0) ≡ true
true_one d r x h = elim (dec_le d r) [
  | yes l ↦ rw (le-leb d r l)
  | no k ↦ rw (lt-leb d r (omega arith)) (eq-eqb x 0 (h (omega arith)))
]

one_same : (d r x y : ℕ) → (r < d → x ≡ y) → cond (leb d r) true (eqb x 0) ≡ cond (leb d r) true (eqb y 0)
one_same d r x y h = elim (dec_le d r) [
  | yes l ↦ rw (le-leb d r l)
  | no k ↦ ap (λ (z : ℕ). cond (leb d r) true (eqb z 0)) (h (omega arith))
]

-- the test passes exactly at codewords
pub codeword_of_test : (m r : ℕ) (w : List ℕ) → IsWord m w → codeword_test m r w ≡ true → IsCodeword m r w
unfolding codeword_test low_test
codeword_of_test m r w h e = record { word = h; low = λ A h_a d. one_true (degree A) r (coefficient m w A) (all_true (2 ^ m) _ e A h_a) d }

pub test_of_codeword : (m r : ℕ) (w : List ℕ) → IsCodeword m r w → codeword_test m r w ≡ true
unfolding codeword_test low_test
test_of_codeword m r w c = true_all (2 ^ m) _ (λ A h_a. true_one (degree A) r (coefficient m w A) (c.low A h_a))

-- adding a codeword does not change the test
pub test_add : (m r : ℕ) (w c : List ℕ) → IsWord m w → IsCodeword m r c → codeword_test m r (add_words w c) ≡ codeword_test m r w
unfolding codeword_test low_test
test_add m r w c hw hc =
    all_ext (2 ^ m) _ _ (λ A h_a. one_same (degree A) r (coefficient m (add_words w c) A) (coefficient m w A) (same A h_a))
  where
    same : (A : ℕ) → A < 2 ^ m → r < degree A → coefficient m (add_words w c) A ≡ coefficient m w A
    same A h_a d = omega (arith, coefficient-add m w c (hw.size ∙ sym hc.word.size) A, hc.low A h_a d, coefficient-lt m w A)

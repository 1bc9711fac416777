-- Taking coefficients twice gives the word back, so the encoder's word is a codeword and its coefficients are the message's. Assumes nothing.
use Rattle.std.specs.Prelude.{ℕ, zero, suc, ◌*◌, ◌%◌, ◌^◌, ◌<◌, ◌≡◌, List, eqb}
use Rattle.std.proofs.Common.{ap, ◌∙◌, mul_comm, arith}
use Rattle.std.proofs.Math.Arith.{lt-one}
use Rattle.std.proofs.lemmas.Nat.{and_comm}
use Rattle.std.proofs.lemmas.Bool.{lt-leb}
use Rattle.code.specs.Code.{IsCodeword, codeword, coefficient, degree, monomial, spread}
use Rattle.code.specs.Degree.{◌⊕◌, coef, coef_low, coef_parity, coef_plus, coef_top, second}
use Rattle.words.specs.Sum.{total}
use Rattle.words.specs.SumLaws.{bit_tabulate, sum_ext}
use Rattle.words.specs.TopBit.{by_top}
use Rattle.words.specs.Word.{bit, indicator}
use Rattle.words.proofs.WordLaws.{word_tabulate}

coef_bit : (m : ℕ) (f : ℕ → ℕ) (A : ℕ) → coef m f A % 2 ≡ coef m f A
unfolding coef
coef_bit m f A = omega arith

coef_once : (f : ℕ → ℕ) → coef 0 f 0 ≡ f 0 % 2
unfolding coef total
coef_once f = omega arith

pub coef_twice : (m : ℕ) (f : ℕ → ℕ) (A : ℕ) → A < 2 ^ m → coef m (coef m f) A ≡ f A % 2
coef_twice zero f A h = rw (lt-one h) (coef_once (coef 0 f) ∙ coef_bit 0 f 0 ∙ coef_once f)
coef_twice (suc m) f A h =
    by_top m (λ (B : ℕ). coef (suc m) (coef (suc m) f) B ≡ f B % 2)
    (λ B h_b. coef_low m (coef (suc m) f) B h_b
    ∙ coef_parity m (coef (suc m) f) (coef m f) B (λ p l. ap (λ (x : ℕ). x % 2) (coef_low m f p l))
    ∙ coef_twice m f B h_b)
    (λ B h_b. coef_top m (coef (suc m) f) B h_b
    ∙ coef_parity m (coef (suc m) f ⊕ second m (coef (suc m) f)) (coef m (second m f)) B
    (λ p l. omega (arith, coef_low m f p l, coef_top m f p l, coef_plus m f (second m f) p))
    ∙ coef_twice m (second m f) B h_b)
    A h

-- ---- the encoder

pub codeword-coef : (m r : ℕ) (message : List ℕ) (p : ℕ) → p < 2 ^ m → bit (codeword m r message) p ≡ coef m (spread r message) p
unfolding codeword monomial coef
codeword-coef m r message p l =
    bit_tabulate (2 ^ m) _ p l
    ∙ ap (λ (x : ℕ). x % 2) (sum_ext (2 ^ m) _ _ (λ A h.
    mul_comm (spread r message A) (monomial A p) ∙ ap (λ (x : ℕ). indicator (eqb x A) * spread r message A) (and_comm A p)))

pub coefficient-codeword : (m r : ℕ) (message : List ℕ) (A : ℕ) → A < 2 ^ m → coefficient m (codeword m r message) A ≡ spread r message A % 2
unfolding coefficient coef
coefficient-codeword m r message A h =
    coef_parity m (bit (codeword m r message)) (coef m (spread r message)) A (λ p l. ap (λ (x : ℕ). x % 2) (codeword-coef m r message p l))
    ∙ coef_twice m (spread r message) A h

pub spread_high : (r : ℕ) (message : List ℕ) (A : ℕ) → r < degree A → spread r message A ≡ 0
unfolding spread
spread_high r message A h = rw (lt-leb (degree A) r h)

pub encoder_codeword : (m r : ℕ) (message : List ℕ) → IsCodeword m r (codeword m r message)
unfolding codeword
encoder_codeword m r message = record {
  word = word_tabulate m _ (λ p l. omega arith);
  low = λ A h d. coefficient-codeword m r message A h ∙ ap (λ (x : ℕ). x % 2) (spread_high r message A d);
}

-- The list of a word's coefficients: of a spread message it is the codeword, and of a codeword it has the message. Assumes nothing.
use Rattle.std.specs.Prelude.{ℕ, zero, suc, ◌%◌, ◌^◌, ◌<◌, ◌≡◌, refl, List, [], ◌∷◌, ◌++◌, length, leb, eqb}
use Rattle.std.proofs.Common.{sym, ap₂, ◌∙◌, arith}
use Rattle.std.proofs.Math.Path.{ap}
use Rattle.std.proofs.Math.Bool.{true, cond}
use Rattle.std.proofs.Math.Decide.{dec_le}
use Rattle.words.specs.Sum.{tabulate}
use Rattle.words.specs.SumLaws.{all_ext, bit_tabulate, length-tabulate}
use Rattle.words.specs.Word.{bit, IsWord}
use Rattle.words.proofs.WordLaws.{word_tabulate, word_ext}
use Rattle.code.specs.Code.{degree, rank, spread, codeword, coefficient, low_test, codeword_test, gather, message_of}
use Rattle.code.specs.Degree.{coef, coef_parity}
use Rattle.code.proofs.Inverse.{codeword-coef, encoder_codeword, spread_high}
use Rattle.code.proofs.MessageLaws.{spread_in}

-- the coefficients of a word, masks ascending
abbrev pub coefficients : ℕ → List ℕ → List ℕ
coefficients m w = tabulate (2 ^ m) (coefficient m w)

-- ---- the encoder

pub spread_word : (m r : ℕ) (message : List ℕ) → ((i : ℕ) → bit message i < 2) → IsWord m (tabulate (2 ^ m) (spread r message))
spread_word m r message h =
    word_tabulate m (spread r message) (λ A l. elim (dec_le (degree A) r) [
      | yes d ↦ rw (spread_in r message A d) (h (rank r A))
      | no k ↦ rw (spread_high r message A (omega arith)) (omega arith)
    ])

pub spread-coefficients : (m r : ℕ) (message : List ℕ) → coefficients m (tabulate (2 ^ m) (spread r message)) ≡ codeword m r message
unfolding coefficient coef
spread-coefficients m r message =
    word_ext (word_tabulate m _ (λ A l. omega arith)) (encoder_codeword m r message).word
    (λ p l. bit_tabulate (2 ^ m) _ p l
    ∙ coef_parity m (bit (tabulate (2 ^ m) (spread r message))) (spread r message) p (λ A k. ap (λ (x : ℕ). x % 2) (bit_tabulate (2 ^ m) (spread r message) A k))
    ∙ sym (codeword-coef m r message p l))

-- ---- the codeword test and the message reader

gather_ext : (r : ℕ) (f g : ℕ → ℕ) (n : ℕ) → ((A : ℕ) → A < n → f A ≡ g A) → gather r f n ≡ gather r g n
unfolding gather
gather_ext r f g zero h = refl
gather_ext r f g (suc n) h =
    ap₂ (λ (u : List ℕ) (x : ℕ). cond (leb (degree n) r) (u ++ (x ∷ [])) u) (gather_ext r f g n (λ A l. h A (omega arith))) (h n (omega arith))

module _ (m r : ℕ) (w : List ℕ) where
  pub coefficients-length : length (coefficients m w) ≡ 2 ^ m
  coefficients-length = length-tabulate (2 ^ m) (coefficient m w)

  pub coefficients_test : low_test r (bit (coefficients m w)) (length (coefficients m w)) ≡ codeword_test m r w
  unfolding codeword_test low_test
  coefficients_test =
      ap (low_test r (bit (coefficients m w))) coefficients-length
      ∙ all_ext (2 ^ m) _ _ (λ A l. ap (λ (x : ℕ). cond (leb (degree A) r) true (eqb x 0)) (bit_tabulate (2 ^ m) (coefficient m w) A l))

  pub coefficients_message : gather r (bit (coefficients m w)) (length (coefficients m w)) ≡ message_of m r w
  unfolding message_of
  coefficients_message =
      ap (gather r (bit (coefficients m w))) coefficients-length
      ∙ gather_ext r _ _ (2 ^ m) (λ A l. bit_tabulate (2 ^ m) (coefficient m w) A l)

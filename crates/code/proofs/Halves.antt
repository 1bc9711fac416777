-- Degree by halves: a word of exponent m + 1 is a codeword of order r + 1 exactly when its first half is one of order r + 1 and the sum of
-- its halves one of order r. Assumes nothing.
use Rattle.std.specs.Prelude.{ℕ, suc, ◌+◌, ◌%◌, ◌^◌, ◌≤◌, ◌<◌, ◌≡◌, List}
use Rattle.std.proofs.Common.{sym, ap, ap₂, ◌∙◌, arith, length-take, length-drop, get_or-take, get_or-drop}
use Rattle.code.specs.Code.{IsCodeword}
use Rattle.code.proofs.Codewords.{codeword_of_low, low_of_codeword}
use Rattle.code.specs.Degree.{low_first, low_full, low_join, low_parity, low_sum}
use Rattle.code.specs.TestSteps.{first_half, second_half, sum_halves}
use Rattle.words.specs.Word.{IsWord, bit}
use Rattle.words.proofs.WordLaws.{bit-add, word_add, word_of_bits}

module _ (m : ℕ) (w : List ℕ) (hw : IsWord (suc m) w) where
  pub bit_first : (p : ℕ) → p < 2 ^ m → bit (first_half m w) p ≡ bit w p
  bit_first p l = get_or-take (2 ^ m) w p 0 l

  pub bit_second : (p : ℕ) → bit (second_half m w) p ≡ bit w (2 ^ m + p)
  bit_second p = get_or-drop (2 ^ m) w p 0

  pub word_first : IsWord m (first_half m w)
  word_first = word_of_bits m (first_half m w) (length-take (2 ^ m) w ∙ omega (arith, hw.size)) (λ p l. omega (arith, bit_first p l, hw.bits p))

  pub word_second : IsWord m (second_half m w)
  word_second = record { size = length-drop (2 ^ m) w ∙ omega (arith, hw.size); bits = λ p. omega (arith, bit_second p, hw.bits (2 ^ m + p)) }

  pub bit_sum : (p : ℕ) → p < 2 ^ m → bit (sum_halves m w) p ≡ (bit w p + bit w (2 ^ m + p)) % 2
  bit_sum p l =
      bit-add (first_half m w) (second_half m w) (word_first.size ∙ sym word_second.size) p
      ∙ ap₂ (λ (x y : ℕ). (x + y) % 2) (bit_first p l) (bit_second p)

  pub word_sum : IsWord m (sum_halves m w)
  word_sum = word_add word_first word_second

  module _ (r : ℕ) where
    pub codeword_first : IsCodeword (suc m) r w → IsCodeword m r (first_half m w)
    codeword_first c = codeword_of_low word_first (low_parity (low_first (low_of_codeword c)) _ (λ p l. ap (λ (x : ℕ). x % 2) (sym (bit_first p l))))

    pub codeword_sum : IsCodeword (suc m) (suc r) w → IsCodeword m r (sum_halves m w)
    codeword_sum c = codeword_of_low word_sum (low_parity (low_sum (low_of_codeword c)) _ (λ p l. omega (arith, bit_sum p l)))

    pub codeword_join : IsCodeword m (suc r) (first_half m w) → IsCodeword m r (sum_halves m w) → IsCodeword (suc m) (suc r) w
    codeword_join u v =
        codeword_of_low hw (low_join m (suc (suc r)) (bit w)
        (low_parity (low_of_codeword u) (bit w) (λ p l. ap (λ (x : ℕ). x % 2) (bit_first p l)))
        (low_parity (low_of_codeword v) _ (λ p l. omega (arith, bit_sum p l))))

-- at r = m every word is a codeword
pub codeword_full : (m r : ℕ) (w : List ℕ) → m ≤ r → IsWord m w → IsCodeword m r w
codeword_full m r w h hw = codeword_of_low hw (low_full m (suc r) (bit w) (omega arith))

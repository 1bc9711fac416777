-- Codewords of order 0 and 1 as lists: the constant words and the affine words. Assumes nothing.
use Rattle.std.specs.Prelude.{ℕ, zero, suc, ◌+◌, ◌%◌, ◌^◌, ◌<◌, ◌≡◌, List}
use Rattle.std.proofs.Common.{sym, ap, ap₂, ◌∙◌, add-zero, arith, pow_pos}
use Rattle.std.proofs.Math.Arith.{lt-one}
use Rattle.std.specs.Int.Bits.{bit_and, bit_xor, and_zero_l, and_zero_r, xor_zero_l}
use Rattle.std.proofs.lemmas.Nat.{xor_lt}
use Rattle.std.specs.Int.Count.{ones}
use Rattle.words.specs.Sum.{tabulate}
use Rattle.words.specs.SumLaws.{bit_tabulate, tabulate_ext}
use Rattle.words.specs.TopBit.{by_top, and_top_top, ones_top, ones-zero}
use Rattle.words.specs.Xor.{and-xor, ones-xor, xor_twice}
use Rattle.words.specs.Word.{IsWord, add_words, bit}
use Rattle.words.proofs.WordLaws.{unmod, word_add, word_bit, word_ext, word_tabulate}
use Rattle.code.specs.Code.{IsCodeword}
use Rattle.code.specs.Degree.{low_parity}
use Rattle.code.specs.Affine.{constant_of_low, line, line_of_low, low_constant, low_line}
use Rattle.code.proofs.Codewords.{codeword_of_low, low_of_codeword}
use Rattle.hadamard.specs.Correlation.{affine}

-- ---- order 1

pub bit-affine : (m a t p : ℕ) → p < 2 ^ m → bit (affine m a t) p ≡ line a t p % 2
unfolding affine
bit-affine m a t p l = bit_tabulate (2 ^ m) _ p l

pub word_affine : (m a t : ℕ) → IsWord m (affine m a t)
unfolding affine
word_affine m a t = word_tabulate m _ (λ p l. omega arith)

pub affine_codeword : (m a t : ℕ) → a < 2 ^ m → IsCodeword m 1 (affine m a t)
affine_codeword m a t h =
    codeword_of_low (word_affine m a t) (low_parity (low_line m a t h) (bit (affine m a t)) (λ p l. omega (arith, bit-affine m a t p l)))

-- w is an affine word with one of the masks below n
pub record IsAffine (m n : ℕ) (w : List ℕ) : Type 0 where
  pub mask : ℕ
  pub start : ℕ
  pub mask_lt : mask < n
  pub start_lt : start < 2
  pub same : w ≡ affine m mask start

pub codeword_affine : (m : ℕ) (w : List ℕ) → IsCodeword m 1 w → IsAffine m (2 ^ m) w
codeword_affine m w c =
    let L = line_of_low m (bit w) (low_of_codeword c) in
    record {
      mask = L.mask;
      start = L.start;
      mask_lt = L.mask_lt;
      start_lt = L.start_lt;
      same = word_ext c.word (word_affine m L.mask L.start)
          (λ p l. omega (arith, L.agree p l, bit-affine m L.mask L.start p l, c.word.bits p));
    }

-- only the constant's parity counts
pub affine_parity : (m a s t : ℕ) → s % 2 ≡ t % 2 → affine m a s ≡ affine m a t
unfolding affine
affine_parity m a s t e = tabulate_ext (2 ^ m) _ _ (λ p l. omega arith)

-- the parity of the ones that a sum of masks has in common with a place
pub parity_xor : (a b p : ℕ) → ones (bit_and (bit_xor a b) p) % 2 ≡ (ones (bit_and a p) + ones (bit_and b p)) % 2
parity_xor a b p = ap (λ (x : ℕ). ones x % 2) (and-xor a b p) ∙ ones-xor (bit_and a p) (bit_and b p)

pub affine-add : (m a t b s : ℕ) → add_words (affine m a t) (affine m b s) ≡ affine m (bit_xor a b) (t + s)
affine-add m a t b s =
    word_ext (word_add (word_affine m a t) (word_affine m b s)) (word_affine m (bit_xor a b) (t + s))
    (λ p l. word_bit (word_affine m a t) (word_affine m b s) p
    ∙ ap₂ (λ (x y : ℕ). (x + y) % 2) (bit-affine m a t p l) (bit-affine m b s p l)
    ∙ sums t s (ones (bit_and a p)) (ones (bit_and b p)) (ones (bit_and (bit_xor a b) p)) (parity_xor a b p)
    ∙ sym (bit-affine m (bit_xor a b) (t + s) p l))
  where
    sums : (t s i j k : ℕ) → k % 2 ≡ (i + j) % 2 → ((t + i) % 2 + (s + j) % 2) % 2 ≡ (t + s + k) % 2
    sums t s i j k e = simp unmod (omega arith)

-- a mask below 2 ^ m whose parities are all even is 0
even_mask : (m a : ℕ) → a < 2 ^ m → ((p : ℕ) → p < 2 ^ m → ones (bit_and a p) % 2 ≡ 0) → a ≡ 0
even_mask zero a h e = lt-one h
even_mask (suc m) a h even =
    by_top m (λ (c : ℕ). ((p : ℕ) → p < 2 ^ suc m → ones (bit_and c p) % 2 ≡ 0) → c ≡ 0)
    (λ c hc e. even_mask m c hc (λ p l. e p (omega arith)))
    (λ c hc e. absurd (omega (
      arith,
      e (2 ^ m + 0) (omega (arith, pow_pos m)),
      ap ones (and_top_top m c 0 hc (pow_pos m) ∙ ap (λ (x : ℕ). 2 ^ m + x) (and_zero_r c)),
      ones_top m 0 (pow_pos m),
      ones-zero,
    )))
    a h even

-- an affine word has one mask below 2 ^ m, and one constant up to parity
module _ (m a t b s : ℕ) (e : affine m a t ≡ affine m b s) where
  at : (p : ℕ) → p < 2 ^ m → line a t p % 2 ≡ line b s p % 2
  at p l = sym (bit-affine m a t p l) ∙ ap (λ (w : List ℕ). bit w p) e ∙ bit-affine m b s p l

  pub affine_start : t % 2 ≡ s % 2
  affine_start = rw (and_zero_r a, and_zero_r b, ones-zero, add-zero t, add-zero s) at (at 0 (pow_pos m))

  pub affine_mask : a < 2 ^ m → b < 2 ^ m → a ≡ b
  affine_mask ha hb =
      sym (xor_twice a b)
      ∙ ap (λ (x : ℕ). bit_xor x b) (even_mask m (bit_xor a b) (xor_lt m a b ha hb) (λ p l. parity_xor a b p ∙ cancel _ _ (at p l) affine_start))
      ∙ xor_zero_l b
    where
      cancel : (i j : ℕ) → (t + i) % 2 ≡ (s + j) % 2 → t % 2 ≡ s % 2 → (i + j) % 2 ≡ 0
      cancel i j h k = omega arith

-- ---- order 0: the affine words of mask 0

pub constant_affine : (m t : ℕ) → t < 2 → tabulate (2 ^ m) (λ p. t) ≡ affine m 0 t
unfolding affine
constant_affine m t h = tabulate_ext (2 ^ m) _ _ (λ p l. omega (arith, ap ones (and_zero_l p), ones-zero))

pub constant_codeword : (m t : ℕ) → t < 2 → IsCodeword m 0 (tabulate (2 ^ m) (λ p. t))
constant_codeword m t h =
    codeword_of_low (word_tabulate m (λ p. t) (λ p l. h))
    (low_parity (low_constant m t) (bit (tabulate (2 ^ m) (λ p. t))) (λ p l. omega (arith, bit_tabulate (2 ^ m) (λ q. t) p l)))

pub codeword_constant : (m : ℕ) (w : List ℕ) → IsCodeword m 0 w → w ≡ tabulate (2 ^ m) (λ p. bit w 0)
codeword_constant m w c =
    word_ext c.word (word_tabulate m _ (λ p l. c.word.bits 0))
    (λ p l. omega (arith, constant_of_low m (bit w) (low_of_codeword c) p l, c.word.bits p, c.word.bits 0, bit_tabulate (2 ^ m) (λ q. bit w 0) p l))

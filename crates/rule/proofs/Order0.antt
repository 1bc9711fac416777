-- The reading at order 0: what it gives is a codeword, and adding a constant word moves it along. Assumes nothing.
use Rattle.std.specs.Prelude.{ℕ, zero, suc, ◌+◌, ◌%◌, ◌^◌, ◌<◌, ◌≡◌, refl, List, ℤ, pos, negsuc}
use Rattle.std.proofs.Common.{sym, ap, ap₂, ◌∙◌, arith, lit<}
use Rattle.std.specs.Int.Bits.{bit_and, xor_self}
use Rattle.std.specs.Int.Count.{ones}
use Rattle.words.specs.Word.{IsWord, add_words, bit}
use Rattle.code.specs.Code.{IsCodeword}
use Rattle.hadamard.specs.Correlation.{correlation, signed, values}
use Rattle.hadamard.specs.AffineWords.{affine-add, affine_parity, bit-affine, codeword_constant, constant_affine, constant_codeword}
use Rattle.hadamard.specs.CorrelationLaws.{correlation_affine, correlation_ext, correlation-zero, values_add}
use Rattle.rule.specs.Reading.{accepted, by_sum, constant, order0}
use Rattle.rule.specs.Outcomes.{shift, CodewordIn}

-- the sum of the values is the correlation of mask 0
pub order0-correlation : (m : ℕ) (v : ℕ → ℤ) → order0 m v ≡ by_sum m (correlation m v 0)
unfolding order0
order0-correlation m v = ap (by_sum m) (sym (correlation-zero m v))

in_sum : (m : ℕ) (z : ℤ) → CodewordIn m 0 (by_sum m z)
in_sum m (pos zero) = tt
in_sum m (pos (suc n)) = constant_codeword m 0 (lit< tt)
in_sum m (negsuc n) = constant_codeword m 1 (lit< tt)

pub order0_in : (m : ℕ) (v : ℕ → ℤ) → CodewordIn m 0 (order0 m v)
order0_in m v = rw (order0-correlation m v) (in_sum m (correlation m v 0))

constant-add : (m s t : ℕ) → s < 2 → t < 2 → constant m ((s + t) % 2) ≡ add_words (constant m s) (constant m t)
constant-add m s t hs ht =
    constant_affine m ((s + t) % 2) (omega arith) ∙ affine_parity m 0 ((s + t) % 2) (s + t) (omega arith)
    ∙ sym (affine-add m 0 s 0 t) ∙ ap₂ add_words (sym (constant_affine m s hs)) (sym (constant_affine m t ht))

sum_shift : (m t : ℕ) (z : ℤ) → t < 2 → by_sum m (signed t z) ≡ shift (constant m t) (by_sum m z)
sum_shift m zero (pos zero) h = refl
sum_shift m zero (pos (suc n)) h = ap (λ (d : List ℕ). accepted d 0 0) (constant-add m 0 0 (lit< tt) h)
sum_shift m zero (negsuc n) h = ap (λ (d : List ℕ). accepted d 0 0) (constant-add m 1 0 (lit< tt) h)
sum_shift m (suc zero) (pos zero) h = refl
sum_shift m (suc zero) (pos (suc n)) h = ap (λ (d : List ℕ). accepted d 0 0) (constant-add m 0 1 (lit< tt) h)
sum_shift m (suc zero) (negsuc n) h = ap (λ (d : List ℕ). accepted d 0 0) (constant-add m 1 1 (lit< tt) h)
sum_shift m (suc (suc t)) z h = absurd (omega arith)

-- values negated where a codeword is 1
pub order0-signed : (m : ℕ) (v v' : ℕ → ℤ) (c : List ℕ) → IsCodeword m 0 c → ((p : ℕ) → p < 2 ^ m → v' p ≡ signed (bit c p) (v p))
    → order0 m v' ≡ shift c (order0 m v)
order0-signed m v v' c hc h =
    let t : ℕ = bit c 0 in
    let e : c ≡ constant m t = codeword_constant m c hc in
    let lt : t < 2 = hc.word.bits 0 in
    order0-correlation m v'
    ∙ ap (by_sum m)
    (correlation_ext m v' (λ p. signed ((t + ones (bit_and 0 p)) % 2) (v p))
    (λ p l. h p l ∙ ap (λ (x : ℕ). signed x (v p)) (ap (λ (d : List ℕ). bit d p) (e ∙ constant_affine m t lt) ∙ bit-affine m 0 t p l)) 0
    ∙ correlation_affine m 0 t v lt 0
    ∙ ap (λ (u : ℕ). signed t (correlation m v u)) (xor_self 0))
    ∙ sum_shift m t (correlation m v 0) lt
    ∙ ap (shift (constant m t)) (sym (order0-correlation m v))
    ∙ ap (λ (d : List ℕ). shift d (order0 m v)) (sym e)

pub order0_add : (m : ℕ) (w c : List ℕ) → IsWord m w → IsCodeword m 0 c → order0 m (values (add_words w c)) ≡ shift c (order0 m (values w))
order0_add m w c hw hc = order0-signed m (values w) (values (add_words w c)) c hc (λ p l. values_add hw hc.word p)

-- The reading at order 1: what it gives is a codeword, and adding an affine word moves it along. Assumes nothing.
use Rattle.std.specs.Prelude.{ℕ, ◌+◌, ◌%◌, ◌^◌, ◌≤◌, ◌<◌, ◌≡◌, List, ℤ, nat_abs}
use Rattle.std.proofs.Common.{sym, ap, ◌∙◌, ⊎_elim, arith, pow_mono, pow_pos, eq-eqb, ne_eqb}
use Rattle.std.proofs.Math.Decide.{ℕ_discrete}
use Rattle.std.specs.Int.Bits.{bit_and, bit_xor}
use Rattle.std.proofs.lemmas.Nat.{xor_lt}
use Rattle.std.specs.Int.Count.{ones}
use Rattle.words.specs.Word.{IsWord, add_words, bit}
use Rattle.words.specs.Xor.{xor_twice}
use Rattle.code.specs.Code.{IsCodeword}
use Rattle.hadamard.specs.Correlation.{affine, constant_of, correlation, signed, values}
use Rattle.hadamard.specs.AffineWords.{affine-add, affine_codeword, affine_parity, bit-affine, codeword_affine}
use Rattle.hadamard.specs.CorrelationLaws.{constant_of-signed, correlation_affine, correlation_ext, nat_abs-signed, values_add}
use Rattle.hadamard.specs.Peak.{Alone, Shared, alone_count, alone_first, alone_moved, peak, shared_count, shared_moved}
use Rattle.rule.specs.Reading.{accepted, refused, order1}
use Rattle.rule.specs.Outcomes.{shift, CodewordIn}

-- the sizes of the correlations
abbrev pub sizes : ℕ → (ℕ → ℤ) → ℕ → ℕ
sizes m v u = nat_abs (correlation m v u)

-- the nearer of mask u's two codewords
abbrev pub candidate : ℕ → (ℕ → ℤ) → ℕ → List ℕ
candidate m v u = affine m u (constant_of (correlation m v u))

module _ (m : ℕ) (v : ℕ → ℤ) where
  pub order1_alone : {u : ℕ} → Alone (2 ^ m) (sizes m v) u → order1 m v ≡ accepted (candidate m v u) 0 1
  unfolding order1
  order1_alone h = rw (eq-eqb _ 1 (alone_count h), alone_first h)

  pub order1_shared : Shared (2 ^ m) (sizes m v) → order1 m v ≡ refused 9 0 1
  unfolding order1
  order1_shared h = rw (ne_eqb _ 1 (shared_count h))

  pub order1_in : CodewordIn m 1 (order1 m v)
  order1_in =
      ⊎_elim
      (λ a. rw (order1_alone a) (affine_codeword m _ _ a.below))
      (λ s. rw (order1_shared s) tt)
      (peak (2 ^ m) (sizes m v) (pow_pos m))

-- where there is more than one mask, the greatest alone is not 0
pub alone_pos : {m u : ℕ} {f : ℕ → ℕ} → 1 ≤ m → Alone (2 ^ m) f u → 0 < f u
alone_pos {m} {u} {f} h a = elim (ℕ_discrete 0 u) [
  | yes e ↦ omega (arith, a.others 1 (pow_mono h) (λ d. omega arith))
  | no k ↦ omega (arith, a.others 0 (pow_pos m) k)
]

-- values negated where the affine word of mask a and constant t is 1
module _ (m a t : ℕ) (v v' : ℕ → ℤ) (hm : 1 ≤ m) (ha : a < 2 ^ m) (ht : t < 2)
    (turned : (p : ℕ) → p < 2 ^ m → v' p ≡ signed ((t + ones (bit_and a p)) % 2) (v p)) where
  moved : (u : ℕ) → correlation m v' u ≡ signed t (correlation m v (bit_xor u a))
  moved u = correlation_ext m v' _ turned u ∙ correlation_affine m a t v ht u

  same : (u : ℕ) → u < 2 ^ m → sizes m v' u ≡ sizes m v (bit_xor u a)
  same u l = ap nat_abs (moved u) ∙ nat_abs-signed t (correlation m v (bit_xor u a))

  within : (u : ℕ) → u < 2 ^ m → bit_xor u a < 2 ^ m
  within u l = xor_lt m u a l ha

  back : (u : ℕ) → u < 2 ^ m → bit_xor (bit_xor u a) a ≡ u
  back u l = xor_twice u a

  candidate_moved : {u : ℕ} → Alone (2 ^ m) (sizes m v) u → candidate m v' (bit_xor u a) ≡ add_words (candidate m v u) (affine m a t)
  candidate_moved {u} h =
      ap (λ (z : ℤ). affine m (bit_xor u a) (constant_of z)) (moved (bit_xor u a) ∙ ap (λ (x : ℕ). signed t (correlation m v x)) (xor_twice u a))
      ∙ affine_parity m (bit_xor u a) _ _ (constant_of-signed t (correlation m v u) ht (alone_pos hm h))
      ∙ sym (affine-add m u (constant_of (correlation m v u)) a t)

  order1_moved : order1 m v' ≡ shift (affine m a t) (order1 m v)
  order1_moved =
      ⊎_elim
      (λ h. order1_alone m v' (alone_moved (2 ^ m) (sizes m v) (sizes m v') (λ u. bit_xor u a) within back same h)
      ∙ ap (λ (d : List ℕ). accepted d 0 1) (candidate_moved h)
      ∙ ap (shift (affine m a t)) (sym (order1_alone m v h)))
      (λ h. order1_shared m v' (shared_moved (2 ^ m) (sizes m v) (sizes m v') (λ u. bit_xor u a) within back same h)
      ∙ ap (shift (affine m a t)) (sym (order1_shared m v h)))
      (peak (2 ^ m) (sizes m v) (pow_pos m))

-- values negated where a codeword is 1
pub order1-signed : (m : ℕ) (v v' : ℕ → ℤ) (c : List ℕ) → 1 ≤ m → IsCodeword m 1 c → ((p : ℕ) → p < 2 ^ m → v' p ≡ signed (bit c p) (v p))
    → order1 m v' ≡ shift c (order1 m v)
order1-signed m v v' c hm hc h =
    let L = codeword_affine m c hc in
    rw L.same
    (order1_moved m L.mask L.start v v' hm L.mask_lt L.start_lt
    (λ p l. h p l ∙ ap (λ (x : ℕ). signed x (v p)) (ap (λ (d : List ℕ). bit d p) L.same ∙ bit-affine m L.mask L.start p l)))

pub order1_add : (m : ℕ) (w c : List ℕ) → 1 ≤ m → IsWord m w → IsCodeword m 1 c → order1 m (values (add_words w c)) ≡ shift c (order1 m (values w))
order1_add m w c hm hw hc = order1-signed m (values w) (values (add_words w c)) c hm hc (λ p l. values_add hw hc.word p)

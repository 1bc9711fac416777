-- Laws of correlations: in document 01's words, of a word plus an affine word, and as a distance. Assumes nothing.
use Prim.Native.Nat.{ℕ, zero, suc, ◌+◌, ◌*◌, ◌%◌, ◌^◌, ◌<◌}
use Rattle.std.specs.Prelude.{◌≡◌, refl, true, false, ◌≢◌, ℤ, negsuc, neg_ℤ, nat_abs, ◌+ℤ◌}
use Rattle.std.proofs.Math.Path.{sym, ap₂}
use Rattle.std.proofs.Common.{ap, ◌∙◌, mul-add, add-one, arith, ltb-true}
use Rattle.std.proofs.lemmas.Bool.{false≢true}
use mathlib.Core.List.{List}
use Rattle.std.specs.Int.Bits.{bit_and, bit_xor, and_zero_l, xor_zero_l}
use Rattle.std.specs.Int.Count.{ones}
use Rattle.std.proofs.Math.IntN.{pos, +ℤ_assoc, +ℤ_comm, +ℤ_idl, +ℤ_invr, neg_ℤ-neg_ℤ}
use Rattle.std.specs.Int.Signed.{lt_z}
use Rattle.words.specs.Sum.{sum_below, sum_below_ℤ, total}
use Rattle.words.specs.SumLaws.{sum_ext, sum_ℤ_ext, sum_ℤ_neg}
use Rattle.words.specs.TopBit.{ones-zero}
use Rattle.words.specs.Word.{IsWord, add_words, bit, distance}
use Rattle.words.proofs.WordLaws.{word_add, word_bit}
use Rattle.hadamard.specs.Correlation.{affine, constant_of, correlation, sign, signed, values}
use Rattle.hadamard.specs.AffineWords.{bit-affine, parity_xor, word_affine}

-- ---- signs

pub signed_bits : (x y : ℕ) (z : ℤ) → x < 2 → y < 2 → signed ((x + y) % 2) z ≡ signed x (signed y z)
signed_bits zero y z h k = let e : (0 + y) % 2 ≡ y = omega arith in ap (λ (x : ℕ). signed x z) e
signed_bits (suc zero) zero z h k = refl
signed_bits (suc zero) (suc zero) z h k = sym (neg_ℤ-neg_ℤ z)
signed_bits (suc zero) (suc (suc y)) z h k = absurd (omega arith)
signed_bits (suc (suc x)) y z h k = absurd (omega arith)

-- two negations by parities are one by the parity of their sum
pub signed_sum : (x y n : ℕ) (z : ℤ) → n % 2 ≡ (x + y) % 2 → signed (n % 2) z ≡ signed (x % 2) (signed (y % 2) z)
signed_sum x y n z e =
    let parts : n % 2 ≡ (x % 2 + y % 2) % 2 = omega arith in
    ap (λ (k : ℕ). signed k z) parts ∙ signed_bits (x % 2) (y % 2) z (omega arith) (omega arith)

sign-signed : (x : ℕ) → sign x ≡ signed x (pos 1)
sign-signed zero = refl
sign-signed (suc x) = refl

pub sign_size : (b : ℕ) → nat_abs (sign b) ≡ 1
sign_size zero = refl
sign_size (suc b) = refl

-- a bit's value where x is added to it
sign_sum : (b x : ℕ) → b < 2 → sign ((b + x) % 2) ≡ signed (x % 2) (sign b)
sign_sum b x h =
    let low : b % 2 ≡ b = omega arith in
    sign-signed ((b + x) % 2) ∙ signed_sum x b (b + x) (pos 1) (omega arith)
    ∙ ap (λ (y : ℕ). signed (x % 2) (signed y (pos 1))) low ∙ ap (signed (x % 2)) (sym (sign-signed b))

pub sum_signed : (n t : ℕ) (f : ℕ → ℤ) → sum_below_ℤ n (λ p. signed t (f p)) ≡ signed t (sum_below_ℤ n f)
sum_signed n zero f = refl
sum_signed n (suc t) f = sum_ℤ_neg n f

pub nat_abs-signed : (t : ℕ) (z : ℤ) → nat_abs (signed t z) ≡ nat_abs z
nat_abs-signed zero z = refl
nat_abs-signed (suc t) (pos zero) = refl
nat_abs-signed (suc t) (pos (suc n)) = refl
nat_abs-signed (suc t) (negsuc n) = refl

pub constant_of-lt : (z : ℤ) → constant_of z < 2
constant_of-lt (pos n) = omega arith
constant_of-lt (negsuc n) = omega arith

pub constant_of-signed : (t : ℕ) (z : ℤ) → t < 2 → 0 < nat_abs z → constant_of (signed t z) % 2 ≡ (constant_of z + t) % 2
constant_of-signed zero (pos n) h k = refl
constant_of-signed zero (negsuc n) h k = refl
constant_of-signed (suc zero) (pos zero) h k = absurd (omega arith)
constant_of-signed (suc zero) (pos (suc n)) h k = refl
constant_of-signed (suc zero) (negsuc n) h k = refl
constant_of-signed (suc (suc t)) z h k = absurd (omega arith)

-- the sign of a correlation, as a test gives it
pub constant_of_negative : (z : ℤ) → lt_z z (pos 0) ≡ true → constant_of z ≡ 1
constant_of_negative (pos n) e = absurd (omega (arith, ltb-true n 0 e))
constant_of_negative (negsuc n) e = refl

pub constant_of_other : (z : ℤ) → lt_z z (pos 0) ≡ false → constant_of z ≡ 0
constant_of_other (pos n) e = refl
constant_of_other (negsuc n) e = absurd (false≢true (sym e))

-- ---- values

-- adding c negates the values where c is 1
pub values_add : {m : ℕ} {w c : List ℕ} → IsWord m w → IsWord m c → (p : ℕ) → values (add_words w c) p ≡ signed (bit c p) (values w p)
values_add {m} {w} {c} hw hc p =
    let low : bit c p % 2 ≡ bit c p = omega (arith, hc.bits p) in
    ap sign (word_bit hw hc p) ∙ sign_sum (bit w p) (bit c p) (hw.bits p) ∙ ap (λ (x : ℕ). signed x (values w p)) low

-- ---- correlations

pub correlation_ext : (m : ℕ) (v v' : ℕ → ℤ) → ((p : ℕ) → p < 2 ^ m → v p ≡ v' p) → (u : ℕ) → correlation m v u ≡ correlation m v' u
unfolding correlation
correlation_ext m v v' h u = sum_ℤ_ext (2 ^ m) _ _ (λ p l. ap (signed (ones (bit_and u p) % 2)) (h p l))

-- mask 0: the sum of the values
pub correlation-zero : (m : ℕ) (v : ℕ → ℤ) → correlation m v 0 ≡ sum_below_ℤ (2 ^ m) v
unfolding correlation
correlation-zero m v = sum_ℤ_ext (2 ^ m) _ _ (λ p l. ap (λ (x : ℕ). signed (x % 2) (v p)) (ap ones (and_zero_l p) ∙ ones-zero))

-- "the sum over p of +1 or −1, +1 exactly when the word's bit plus the parity of the ones in u AND p is even"
pub correlation_word : (m : ℕ) (w : List ℕ) → IsWord m w → (u : ℕ) → correlation m (values w) u ≡ sum_below_ℤ (2 ^ m) (λ p. sign ((bit w p + ones (bit_and u p)) % 2))
unfolding correlation
correlation_word m w hw u = sum_ℤ_ext (2 ^ m) _ _ (λ p l. sym (sign_sum (bit w p) (ones (bit_and u p)) (hw.bits p)))

-- values negated where the affine word of mask a and constant t is 1
pub correlation_affine : (m a t : ℕ) (v : ℕ → ℤ) → t < 2 → (u : ℕ) → correlation m (λ p. signed ((t + ones (bit_and a p)) % 2) (v p)) u ≡ signed t (correlation m v (bit_xor u a))
unfolding correlation
correlation_affine m a t v h u =
    sum_ℤ_ext (2 ^ m) _ (λ p. signed t (signed (ones (bit_and (bit_xor u a) p) % 2) (v p)))
    (λ p l. sym (signed_sum (ones (bit_and u p)) (t + ones (bit_and a p)) (t + ones (bit_and (bit_xor u a) p)) (v p) (omega (arith, parity_xor u a p)))
    ∙ signed_sum t (ones (bit_and (bit_xor u a) p)) (t + ones (bit_and (bit_xor u a) p)) (v p) refl
    ∙ ap (λ (x : ℕ). signed x (signed (ones (bit_and (bit_xor u a) p) % 2) (v p))) small)
    ∙ sum_signed (2 ^ m) t (λ p. signed (ones (bit_and (bit_xor u a) p) % 2) (v p))
  where
    small : t % 2 ≡ t
    small = omega arith

-- of a word plus an affine word
pub correlation_add : {m : ℕ} {w : List ℕ} → IsWord m w → (a t : ℕ) → t < 2 → (u : ℕ) → correlation m (values (add_words w (affine m a t))) u ≡ signed t (correlation m (values w) (bit_xor u a))
correlation_add {m} {w} hw a t h u =
    correlation_ext m _ _
    (λ p l. values_add hw (word_affine m a t) p ∙ ap (λ (x : ℕ). signed x (values w p)) (bit-affine m a t p l)) u
    ∙ correlation_affine m a t (values w) h u

-- ---- distances

pub swap4 : (a b c d : ℤ) → (a +ℤ b) +ℤ (c +ℤ d) ≡ (a +ℤ c) +ℤ (b +ℤ d)
swap4 a b c d =
    +ℤ_assoc a b (c +ℤ d) ∙ ap (λ (x : ℤ). a +ℤ x) (sym (+ℤ_assoc b c d) ∙ ap (λ (x : ℤ). x +ℤ d) (+ℤ_comm b c) ∙ +ℤ_assoc c b d)
    ∙ sym (+ℤ_assoc a c (b +ℤ d))

sign_twice : (b : ℕ) → b < 2 → sign b +ℤ pos (2 * b) ≡ pos 1
sign_twice zero h = refl
sign_twice (suc zero) h = refl
sign_twice (suc (suc b)) h = absurd (omega arith)

-- each place gives 1 less twice its bit
signs_twice : (n : ℕ) (f : ℕ → ℕ) → ((p : ℕ) → f p < 2) → sum_below_ℤ n (λ p. sign (f p)) +ℤ pos (2 * sum_below n f) ≡ pos n
unfolding total
signs_twice zero f h = refl
signs_twice (suc n) f h =
    ap (λ (x : ℕ). (sum_below_ℤ n (λ p. sign (f p)) +ℤ sign (f n)) +ℤ pos x) (mul-add 2 (sum_below n f) (f n))
    ∙ swap4 (sum_below_ℤ n (λ p. sign (f p))) (sign (f n)) (pos (2 * sum_below n f)) (pos (2 * f n))
    ∙ ap₂ ◌+ℤ◌ (signs_twice n f h) (sign_twice (f n) (h n))
    ∙ ap pos (add-one n)

pub signed_near : (z : ℤ) → signed (constant_of z) z ≡ pos (nat_abs z)
signed_near (pos n) = refl
signed_near (negsuc n) = refl

signed_far : (z : ℤ) (s : ℕ) → s < 2 → s ≢ constant_of z → signed s z ≡ neg_ℤ (pos (nat_abs z))
signed_far (pos n) zero h k = absurd (k refl)
signed_far (pos n) (suc s) h k = refl
signed_far (negsuc n) zero h k = refl
signed_far (negsuc n) (suc zero) h k = absurd (k refl)
signed_far (negsuc n) (suc (suc s)) h k = absurd (omega arith)

negative_sum : (a x n : ℕ) → neg_ℤ (pos a) +ℤ pos x ≡ pos n → x ≡ a + n
negative_sum a x n e =
    ap nat_abs (sym (+ℤ_idl (pos x)) ∙ ap (λ (y : ℤ). y +ℤ pos x) (sym (+ℤ_invr (pos a))) ∙ +ℤ_assoc (pos a) (neg_ℤ (pos a)) (pos x) ∙ ap (λ (y : ℤ). pos a +ℤ y) e)

module _ {m : ℕ} {w : List ℕ} (hw : IsWord m w) (u : ℕ) where
  signed-distance : (s : ℕ) → s < 2 → signed s (correlation m (values w) u) +ℤ pos (2 * distance m w (affine m u s)) ≡ pos (2 ^ m)
  unfolding distance
  signed-distance s h =
      ap₂ (λ (x : ℤ) (y : ℕ). x +ℤ pos (2 * y))
      (ap (λ (x : ℕ). signed s (correlation m (values w) x)) (sym (xor_zero_l u)) ∙ sym (correlation_add hw u s h 0) ∙ correlation-zero m (values sum))
      (sum_ext (2 ^ m) _ (bit sum) (λ p l. sym (word_bit hw (word_affine m u s) p)))
      ∙ signs_twice (2 ^ m) (bit sum) (word_add hw (word_affine m u s)).bits
    where
      sum : List ℕ
      sum = add_words w (affine m u s)

  -- "The distance to the nearer of u's two codewords is (n − |correlation|) / 2."
  pub near_distance : 2 * distance m w (affine m u (constant_of (correlation m (values w) u))) + nat_abs (correlation m (values w) u) ≡ 2 ^ m
  near_distance =
      let z : ℤ = correlation m (values w) u in
      omega (arith, ap nat_abs (ap (λ (x : ℤ). x +ℤ pos (2 * distance m w (affine m u (constant_of z)))) (sym (signed_near z)) ∙ signed-distance (constant_of z) (constant_of-lt z)))

  -- to the other, (n + |correlation|) / 2
  pub far_distance : (s : ℕ) → s < 2 → s ≢ constant_of (correlation m (values w) u) → 2 * distance m w (affine m u s) ≡ nat_abs (correlation m (values w) u) + 2 ^ m
  far_distance s h k =
      let z : ℤ = correlation m (values w) u in
      negative_sum (nat_abs z) _ (2 ^ m) (ap (λ (x : ℤ). x +ℤ pos (2 * distance m w (affine m u s))) (sym (signed_far z s h k)) ∙ signed-distance s h)

-- Two words packed in one are transformed together. Assumes nothing.
use Prim.Native.Nat.{ℕ, zero, suc, ◌+◌, ◌*◌, ◌%◌, ◌^◌, ◌≤◌, ◌<◌}
use Rattle.std.specs.Prelude.{◌≡◌, refl, ℤ, negsuc, neg_ℤ, nat_abs, ◌+ℤ◌, ◌-ℤ◌, ◌*ℤ◌}
use Rattle.std.proofs.Math.Path.{sym, ap}
use Rattle.std.proofs.Common.{◌∙◌, arith, le-ltb}
use Rattle.std.specs.Int.Bits.{bit_and}
use Rattle.std.specs.Int.Count.{ones}
use Rattle.std.proofs.Math.IntN.{pos, suc_ℤ, pred_ℤ, +ℤ_idl, +ℤ_assoc, +ℤ_comm, +ℤ-neg_ℤ_cancel, suc_ℤ-+ℤ, pred_ℤ-+ℤ, neg_ℤ-+ℤ, neg_ℤ-neg_ℤ, suc_ℤ-*ℤ, pred_ℤ-*ℤ, zero-*ℤ, pos-*ℤ-pos, negsuc-*ℤ-pos}
use Rattle.words.specs.Sum.{sum_below_ℤ, total}
use Rattle.words.specs.SumLaws.{sum_ℤ_ext}
use Rattle.area.specs.Numbers.{nat_abs-add, nat_abs_neg}
use Rattle.hadamard.specs.Correlation.{correlation, signed}
use Rattle.hadamard.specs.CorrelationLaws.{nat_abs-signed, swap4}
use Rattle.peaks.specs.Peaks.{packed_by}

-- ---- a number k times

swap_last : (a b c : ℤ) → a +ℤ b +ℤ c ≡ a +ℤ c +ℤ b
swap_last a b c = +ℤ_assoc a b c ∙ ap (λ (z : ℤ). a +ℤ z) (+ℤ_comm b c) ∙ sym (+ℤ_assoc a c b)

module _ (k : ℕ) where
  abbrev scaled : ℤ → ℤ
  scaled y = y *ℤ pos k

  scaled_up : (a b : ℤ) → scaled (a +ℤ b) ≡ scaled a +ℤ scaled b → scaled (suc_ℤ a +ℤ b) ≡ scaled (suc_ℤ a) +ℤ scaled b
  scaled_up a b e =
      ap scaled (suc_ℤ-+ℤ a b) ∙ suc_ℤ-*ℤ (a +ℤ b) (pos k) ∙ ap (λ (z : ℤ). z +ℤ pos k) e
      ∙ swap_last (scaled a) (scaled b) (pos k) ∙ ap (λ (z : ℤ). z +ℤ scaled b) (sym (suc_ℤ-*ℤ a (pos k)))

  scaled_down : (a b : ℤ) → scaled (a +ℤ b) ≡ scaled a +ℤ scaled b → scaled (pred_ℤ a +ℤ b) ≡ scaled (pred_ℤ a) +ℤ scaled b
  scaled_down a b e =
      ap scaled (pred_ℤ-+ℤ a b) ∙ pred_ℤ-*ℤ (a +ℤ b) (pos k) ∙ ap (λ (z : ℤ). z -ℤ pos k) e
      ∙ swap_last (scaled a) (scaled b) (neg_ℤ (pos k)) ∙ ap (λ (z : ℤ). z +ℤ scaled b) (sym (pred_ℤ-*ℤ a (pos k)))

  scaled-pos : (n : ℕ) (b : ℤ) → scaled (pos n +ℤ b) ≡ scaled (pos n) +ℤ scaled b
  scaled-pos zero b = ap scaled (+ℤ_idl b) ∙ sym (ap (λ (z : ℤ). z +ℤ scaled b) (zero-*ℤ (pos k)) ∙ +ℤ_idl (scaled b))
  scaled-pos (suc n) b = scaled_up (pos n) b (scaled-pos n b)

  scaled-negsuc : (n : ℕ) (b : ℤ) → scaled (negsuc n +ℤ b) ≡ scaled (negsuc n) +ℤ scaled b
  scaled-negsuc zero b = scaled_down (pos zero) b (scaled-pos zero b)
  scaled-negsuc (suc n) b = scaled_down (negsuc n) b (scaled-negsuc n b)

  scaled_sum : (a b : ℤ) → scaled (a +ℤ b) ≡ scaled a +ℤ scaled b
  scaled_sum (pos n) b = scaled-pos n b
  scaled_sum (negsuc n) b = scaled-negsuc n b

  scaled_neg : (a : ℤ) → scaled (neg_ℤ a) ≡ neg_ℤ (scaled a)
  scaled_neg (pos zero) = zero-*ℤ (pos k) ∙ sym (ap neg_ℤ (zero-*ℤ (pos k)))
  scaled_neg (pos (suc n)) = negsuc-*ℤ-pos n k ∙ sym (ap neg_ℤ (pos-*ℤ-pos (suc n) k))
  scaled_neg (negsuc n) = pos-*ℤ-pos (suc n) k ∙ sym (ap neg_ℤ (negsuc-*ℤ-pos n k) ∙ neg_ℤ-neg_ℤ (pos (suc n * k)))

  scaled_size : (a : ℤ) → nat_abs (scaled a) ≡ nat_abs a * k
  scaled_size (pos n) = refl
  scaled_size (negsuc n) = nat_abs_neg (pos (suc n * k))

-- ---- sums of pairs

module _ (k : ℕ) where
  pub packed_sum : (a b c d : ℤ) → packed_by k a b +ℤ packed_by k c d ≡ packed_by k (a +ℤ c) (b +ℤ d)
  packed_sum a b c d = swap4 a (scaled k b) c (scaled k d) ∙ ap (λ (z : ℤ). a +ℤ c +ℤ z) (sym (scaled_sum k b d))

  packed_signed : (t : ℕ) (a b : ℤ) → signed t (packed_by k a b) ≡ packed_by k (signed t a) (signed t b)
  packed_signed zero a b = refl
  packed_signed (suc t) a b = neg_ℤ-+ℤ a (scaled k b) ∙ ap (λ (z : ℤ). neg_ℤ a +ℤ z) (sym (scaled_neg k b))

  sum_packed : (n : ℕ) (x y : ℕ → ℤ) → sum_below_ℤ n (λ p. packed_by k (x p) (y p)) ≡ packed_by k (sum_below_ℤ n x) (sum_below_ℤ n y)
  unfolding total
  sum_packed zero x y = sym (ap (λ (z : ℤ). pos 0 +ℤ z) (zero-*ℤ (pos k)))
  sum_packed (suc n) x y =
      ap (λ (z : ℤ). z +ℤ packed_by k (x n) (y n)) (sum_packed n x y) ∙ packed_sum (sum_below_ℤ n x) (sum_below_ℤ n y) (x n) (y n)

  pub correlation_packed :
      (m : ℕ) (x y : ℕ → ℤ) (u : ℕ)
      → correlation m (λ p. packed_by k (x p) (y p)) u ≡ packed_by k (correlation m x u) (correlation m y u)
  unfolding correlation
  correlation_packed m x y u =
      sum_ℤ_ext (2 ^ m) _ _ (λ p l. packed_signed (ones (bit_and u p) % 2) (x p) (y p))
      ∙ sum_packed (2 ^ m) (λ p. signed (ones (bit_and u p) % 2) (x p)) (λ p. signed (ones (bit_and u p) % 2) (y p))

  pub packed_size : (x y : ℤ) → nat_abs (packed_by k x y) ≤ nat_abs x + nat_abs y * k
  packed_size x y = omega (arith, nat_abs-add x (scaled k y), scaled_size k y)

-- ---- the numbers of a pair

-- raised by k a number of size at most k is not negative
pub lifted : (k : ℕ) (x : ℤ) → nat_abs x ≤ k → x +ℤ pos k ≡ pos (nat_abs (x +ℤ pos k))
lifted k (pos a) h = refl
lifted k (negsuc a) h = rw (le-ltb k (suc a) h)

pub lifted_back : (k : ℕ) (x : ℤ) → nat_abs x ≤ k → pos (nat_abs (x +ℤ pos k)) -ℤ pos k ≡ x
lifted_back k x h = ap (λ (z : ℤ). z -ℤ pos k) (sym (lifted k x h)) ∙ +ℤ-neg_ℤ_cancel x (pos k)

-- ---- the size of a correlation

sum_size : (n : ℕ) (f : ℕ → ℤ) → ((p : ℕ) → p < n → nat_abs (f p) ≤ 1) → nat_abs (sum_below_ℤ n f) ≤ n
unfolding total
sum_size zero f h = omega arith
sum_size (suc n) f h = omega (arith, nat_abs-add (sum_below_ℤ n f) (f n), sum_size n f (λ p l. h p (omega arith)), h n (omega arith))

pub correlation_size : (m : ℕ) (v : ℕ → ℤ) (u : ℕ) → ((p : ℕ) → p < 2 ^ m → nat_abs (v p) ≤ 1) → nat_abs (correlation m v u) ≤ 2 ^ m
unfolding correlation
correlation_size m v u h = sum_size (2 ^ m) _ (λ p l. omega (arith, nat_abs-signed (ones (bit_and u p) % 2) (v p), h p l))

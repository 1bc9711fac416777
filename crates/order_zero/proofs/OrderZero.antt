-- The reading at order 0 by the number of ones. Assumes nothing.
use Prim.Native.Nat.{ℕ, zero, suc, ◌+◌, ◌*◌, ◌^◌, ◌<◌}
use mathlib.Core.Path.{◌≡◌, refl, sym, ap, ◌∙◌}
use mathlib.Core.List.{List}
use native.Mathlib.Omega.{arith}
use lib.Bits.{and_zero_l}
use lib.Count.{ones}
use lib.Dec.{lit<}
use lib.IntN.{ℤ, pos, negsuc}
use lib.ListN.{replicate}
use Rattle.words.specs.Sum.{sum_below, sum_below_ℤ}
use Rattle.words.specs.SumLaws.{sum_ext}
use Rattle.words.specs.TopBit.{ones-zero}
use Rattle.words.specs.Word.{bit, IsWord, distance}
use Rattle.hadamard.specs.Correlation.{values, correlation, affine}
use Rattle.hadamard.specs.AffineWords.{bit-affine}
use Rattle.hadamard.specs.CorrelationLaws.{correlation-zero, near_distance, far_distance}
use Rattle.rule.specs.Reading.{accepted, refused, constant, by_sum, order0}
use Rattle.told.specs.Told.{Read, as_accepted, as_refused}
use Rattle.told.specs.ToldLaws.{constant_read}
use Rattle.told.specs.declared.Noise.TheVariants.{Tie}

-- n less x
data Less (n x : ℕ) : ℤ → Type 0 where
  over : {a : ℕ} → x + a ≡ n → Less n x (pos a)
  under : {a : ℕ} → x ≡ suc a + n → Less n x (negsuc a)

module _ (m : ℕ) {n x : ℕ} where
  sum_tie : {z : ℤ} → Less n x z → x ≡ n → by_sum m z ≡ refused 9 0 0
  sum_tie (over {a = zero} e) h = refl
  sum_tie (over {a = suc a} e) h = absurd (omega arith)
  sum_tie (under e) h = absurd (omega arith)

  sum_zeros : {z : ℤ} → Less n x z → x < n → by_sum m z ≡ accepted (constant m 0) 0 0
  sum_zeros (over {a = zero} e) h = absurd (omega arith)
  sum_zeros (over {a = suc a} e) h = refl
  sum_zeros (under e) h = absurd (omega arith)

  sum_ones : {z : ℤ} → Less n x z → n < x → by_sum m z ≡ accepted (constant m 1) 0 0
  sum_ones (over e) h = absurd (omega arith)
  sum_ones (under e) h = refl

-- a word with k ones
module _ {m k : ℕ} {w : List ℕ} (hw : IsWord m w) (ek : k ≡ sum_below (2 ^ m) (bit w)) where
  zeros_distance : distance m w (affine m 0 0) ≡ k
  unfolding distance
  zeros_distance =
      sum_ext (2 ^ m) _ (bit w) (λ p l. omega (arith, bit-affine m 0 0 p l, ap ones (and_zero_l p), ones-zero, hw.bits p)) ∙ sym ek

  weighed : Less (2 ^ m) (2 * k) (sum_below_ℤ (2 ^ m) (values w))
  weighed = rw (← correlation-zero m (values w)) (go (correlation m (values w) 0) refl)
    where
      go : (z : ℤ) → correlation m (values w) 0 ≡ z → Less (2 ^ m) (2 * k) z
      go (pos a) e = over {a = a} (omega (arith, zeros_distance, rw e at (near_distance hw 0)))
      go (negsuc a) e = under {a = a} (omega (arith, zeros_distance, rw e at (far_distance hw 0 0 (lit< tt) (λ q. omega (arith, rw e at q)))))

  pub zero_tie : {ys : List ℤ} → 2 * k ≡ 2 ^ m → Read (2 ^ m) (order0 m (values w)) ys (as_refused Tie 0 0)
  unfolding order0
  zero_tie h = rw (sum_tie m weighed h) (record { said = refl; word = tt })

  module _ {n : ℕ} {ys : List ℤ} (en : n ≡ 2 ^ m) where
    pub zero_zeros : 2 * k < 2 ^ m → ys ≡ replicate n (pos 0) → Read (2 ^ m) (order0 m (values w)) ys (as_accepted 0 0)
    unfolding order0
    zero_zeros h e = rw (sum_zeros m weighed h) (constant_read m (lit< tt) en e)

    pub zero_ones : 2 ^ m < 2 * k → ys ≡ replicate n (pos 1) → Read (2 ^ m) (order0 m (values w)) ys (as_accepted 0 0)
    unfolding order0
    zero_ones h e = rw (sum_ones m weighed h) (constant_read m (lit< tt) en e)

-- Keys of 32 signed bits, as a search for the greatest computes them: 512 times a size, and a number below 512. Assumes nothing.
use Rattle.std.specs.Prelude.{ℕ, zero, suc, ◌+◌, ◌-◌, ◌*◌, ◌%◌, ◌^◌, ◌<◌, ◌≡◌, refl, T, ℤ, pos, nat_abs, ◌+ℤ◌, ◌-ℤ◌, ◌*ℤ◌}
use Rattle.std.proofs.Common.{ap, ap₂, ◌∙◌, arith, Fits, SFits, to_z, of_z, to_z-of_z, le-ltb}
use Rattle.std.specs.Int.Signed.{mag, non_neg, quot_z, rem_z}
use Rattle.std.specs.Int.{w32, w64}
use Rattle.area.specs.Numbers.{stored, stored-eq, fits_32}
use Rattle.peaks.specs.Casts.{size_held}
use Rattle.peaks.specs.Stored.{as_it_is}

-- ---- a number below 512, counted up and down

module _ {k : ℕ} (l : k < 512) where
  count_read : to_z w32 k ≡ pos k
  count_read = size_held k (omega arith)

  -- what is left to 511
  pub down_is : of_z w32 (pos 511 -ℤ to_z w32 k) ≡ 511 - k
  down_is = ap (λ (z : ℤ). of_z w32 (pos 511 -ℤ z)) count_read ∙ left k l
    where
      left : (k : ℕ) → k < 512 → of_z w32 (pos 511 -ℤ pos k) ≡ 511 - k
      left zero l = refl
      left (suc k) l = rw (le-ltb 511 (suc k) (omega arith)) refl

-- ---- the key of a size z, which is n

module _ {n : ℕ} {z : ℤ} (e : z ≡ pos n) (small : n < 2 ^ 21) where
  size_read : stored z ≡ pos n
  size_read = stored-eq z (omega (arith, ap nat_abs e)) ∙ e

  pub scaled_fits : SFits w32 (stored z *ℤ pos 512)
  scaled_fits = rw size_read (fits_32 _ (omega arith))

  scaled_read : stored (stored z *ℤ pos 512) ≡ pos (n * 512)
  scaled_read = to_z-of_z scaled_fits ∙ ap (λ (y : ℤ). y *ℤ pos 512) size_read

  module _ {k : ℕ} (l : k < 512) where
    pub key_is : {j : ℕ} → k ≡ j → stored (stored z *ℤ pos 512) +ℤ to_z w32 k ≡ pos (512 * n + j)
    key_is same = ap₂ ◌+ℤ◌ scaled_read (count_read l) ∙ ap pos (omega (arith, same))

    pub key_fits : SFits w32 (stored (stored z *ℤ pos 512) +ℤ to_z w32 k)
    key_fits = rw (key_is refl) (fits_32 _ (omega arith))

-- a key z, which is n, taken apart
module _ {n : ℕ} {z : ℤ} (e : z ≡ pos n) (l : mag z < 2 ^ 31) where
  key_read : stored z ≡ pos n
  key_read = as_it_is l ∙ e

  pub quotient_fits : SFits w32 (quot_z (stored z) (pos 512))
  quotient_fits = rw key_read (record { sfits = omega (arith, ap mag e) })

  rest_read : stored (rem_z (stored z) (pos 512)) ≡ pos (n % 512)
  rest_read = ap (λ (y : ℤ). stored (rem_z y (pos 512))) key_read ∙ size_held (n % 512) (omega arith)

  pub rest_casts : T (non_neg (stored (rem_z (stored z) (pos 512)))) × Fits w64 (nat_abs (stored (rem_z (stored z) (pos 512))))
  rest_casts = rw rest_read (tt, record { fits = omega arith })

  pub rest_is : nat_abs (stored (rem_z (stored z) (pos 512))) ≡ n % 512
  rest_is = ap nat_abs rest_read

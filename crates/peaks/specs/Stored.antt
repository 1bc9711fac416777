-- Numbers in 32 signed bits, as a search reads them. Assumes nothing.
use Rattle.std.specs.Prelude.{ℕ, ◌+◌, ◌^◌, ◌≤◌, ◌<◌, ◌≡◌, T, eqb, ℤ, pos, negsuc, neg_ℤ, nat_abs, ◌+ℤ◌, ◌-ℤ◌, Result}
use Rattle.std.proofs.Common.{sym, ap, ◌∙◌, arith, Fits, SFits, to_z, of_z, to_z-of_z, eq-eqb, ne_eqb}
use Rattle.std.proofs.Math.Decide.{ℕ_discrete}
use Rattle.std.specs.Int.Signed.{mag, non_neg}
use Rattle.std.specs.Int.{w32}
use Rattle.std.proofs.Math.Facts.{to_z_pos}
use Rattle.area.specs.Numbers.{stored, stored-eq, fits_32, nat_abs-add, nat_abs_neg}
use Rattle.peaks.specs.declared.Peak.{Peak}
use Rattle.peaks.specs.Peaks.{PeakAt}
use Rattle.peaks.specs.Packing.{lifted}

-- a small number, which is y
pub number_read : {x y : ℤ} → x ≡ y → nat_abs y ≤ 1024 → stored x ≡ y
number_read {x} e l = stored-eq x (rw e (omega arith)) ∙ e

-- a number that fits
pub as_it_is : {z : ℤ} → mag z < 2 ^ 31 → stored z ≡ z
as_it_is l = to_z-of_z {w = w32} (record { sfits = l })

-- whether it is 0, as a test of the word says
pub word_zero : (x : ℤ) → nat_abs x ≡ 0 → of_z w32 x ≡ 0
word_zero (pos n) e = e
word_zero (negsuc n) e = absurd (omega arith)

module _ {x : ℤ} (f : SFits w32 x) where
  pub zero_word : of_z w32 x ≡ 0 → nat_abs x ≡ 0
  zero_word e = ap nat_abs (sym (to_z-of_z f) ∙ ap (to_z w32) e)

  pub zero_read : eqb (of_z w32 x) 0 ≡ eqb (nat_abs x) 0
  zero_read = elim (ℕ_discrete (nat_abs x) 0) [
    | yes e ↦ eq-eqb (of_z w32 x) 0 (word_zero x e) ∙ sym (eq-eqb (nat_abs x) 0 e)
    | no k ↦ ne_eqb (of_z w32 x) 0 (λ e. k (zero_word e)) ∙ sym (ne_eqb (nat_abs x) 0 k)
  ]

-- a number raised by k, so that it is not negative
module _ (k : ℕ) (z : ℤ) (low : nat_abs z ≤ k) (room : nat_abs z + k < 2 ^ 31) where
  held : stored z ≡ z
  held = stored-eq z (omega arith)

  pub raise_fits : SFits w32 (stored z +ℤ pos k)
  raise_fits = rw held (fits_32 _ (omega (arith, nat_abs-add z (pos k))))

  pub raise_is : stored (stored z +ℤ pos k) ≡ pos (nat_abs (z +ℤ pos k))
  raise_is = to_z-of_z raise_fits ∙ rw held (lifted k z low)

  pub raise_casts : T (non_neg (stored (stored z +ℤ pos k))) × Fits w32 (nat_abs (stored (stored z +ℤ pos k)))
  raise_casts = rw raise_is (tt, record { fits = omega (arith, nat_abs-add z (pos k)) })

-- a digit d, less k
module _ (k d : ℕ) (room : d + k < 2 ^ 31) where
  digit_held : to_z w32 d ≡ pos d
  digit_held = to_z_pos w32 (omega arith)

  lowered_small : nat_abs (pos d -ℤ pos k) < 2 ^ 31
  lowered_small = omega (arith, nat_abs-add (pos d) (neg_ℤ (pos k)), nat_abs_neg (pos k))

  pub lower_fits : SFits w32 (to_z w32 d -ℤ pos k)
  lower_fits = rw digit_held (fits_32 _ lowered_small)

  pub lower_is : stored (to_z w32 d -ℤ pos k) ≡ pos d -ℤ pos k
  lower_is = rw digit_held (stored-eq _ lowered_small)

-- a size that fits
module _ {g : ℤ} {n : ℕ} (e : g ≡ pos n) (l : mag g < 2 ^ 31) where
  size_read : stored g ≡ pos n
  size_read = as_it_is l ∙ e

  pub size_whole : stored g ≡ pos (nat_abs (stored g))
  size_whole = size_read ∙ ap (λ (z : ℤ). pos (nat_abs z)) (sym size_read)

pub peak_as : {a b : ℕ} {x x' y y' : ℤ} {r : Result Peak Peak} → x ≡ x' → y ≡ y' → PeakAt a b x y r → PeakAt a b x' y' r
peak_as ex ey k = rw (← ex, ← ey) k

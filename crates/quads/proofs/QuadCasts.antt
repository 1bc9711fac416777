-- Quads and their numbers in 32 signed bits, as the code computes with them. Assumes nothing.
use Prim.Native.Nat.{ℕ, ◌/◌, ◌%◌}
use mathlib.Core.Path.{◌≡◌, ap, ap₂, ◌∙◌}
use native.Mathlib.Omega.{arith}
use lib.Dec.{T}
use lib.IntN.{ℤ, pos, neg_ℤ, nat_abs, ◌+ℤ◌, ◌-ℤ◌}
use lib.Signed.{non_neg}
use mir.Syntax.{w32}
use mir.Val.{Fits, SFits, to_z}
use mir.Facts.{to_z-of_z}
use Rattle.area.specs.Numbers.{Half, stored, stored-eq, fits_32, nat_abs-add, nat_abs_neg}
use Rattle.peaks.specs.Stored.{raise_fits, raise_is, raise_casts, lower_fits, lower_is}
use Rattle.quads.specs.Quads.{raised, number_of, Raisable}
use Rattle.quads.specs.Small.{number_small}

-- ---- the numbers of a quad

module _ {z : ℤ} (h : Raisable z) where
  abbrev raised_stored : ℤ
  raised_stored = stored (stored z +ℤ pos 1077952576)

  quad_held : stored z ≡ z
  quad_held = stored-eq z (omega (arith, h.small))

  pub raised_fits : SFits w32 (stored z +ℤ pos 1077952576)
  raised_fits = raise_fits 1077952576 z (omega (arith, h.small)) (omega (arith, h.small))

  raised_is : raised_stored ≡ pos (raised z)
  raised_is = raise_is 1077952576 z (omega (arith, h.small)) (omega (arith, h.small))

  pub raised_casts : T (non_neg raised_stored) × Fits w32 (nat_abs raised_stored)
  raised_casts = raise_casts 1077952576 z (omega (arith, h.small)) (omega (arith, h.small))

module _ (w : ℕ) {z : ℤ} (h : Raisable z) where
  abbrev digit : ℕ
  digit = nat_abs (raised_stored h) / w % 256

  pub lowered_fits : SFits w32 (to_z w32 digit -ℤ pos 64)
  lowered_fits = lower_fits 64 digit (omega arith)

  pub number_is : stored (to_z w32 digit -ℤ pos 64) ≡ number_of w z
  unfolding number_of
  number_is = lower_is 64 digit (omega arith) ∙ rw (raised_is h)

-- ---- sums and differences of two numbers of a quad

-- x, which the code makes, is y
pub record Made (x y : ℤ) : Type 0 where
  pub is : x ≡ y
  pub half : Half y

-- the number of weight w, as the code got it of the stored quad
number_held : (w : ℕ) {z x : ℤ} → Raisable z → x ≡ number_of w (stored z) → stored x ≡ number_of w z
number_held w {z} {x} h e =
    let is : x ≡ number_of w z = e ∙ ap (number_of w) (quad_held h) in stored-eq x (rw is (omega (arith, number_small w z))) ∙ is

module _ (v w : ℕ) {z x y : ℤ} (h : Raisable z) (ex : x ≡ number_of v (stored z)) (ey : y ≡ number_of w (stored z)) where
  pub sum_made : Made (stored x +ℤ stored y) (number_of v z +ℤ number_of w z)
  sum_made = record {
    is = ap₂ ◌+ℤ◌ (number_held v h ex) (number_held w h ey);
    half = record { half = omega (arith, nat_abs-add (number_of v z) (number_of w z), number_small v z, number_small w z) };
  }

  pub difference_made : Made (stored x -ℤ stored y) (number_of v z -ℤ number_of w z)
  difference_made = record {
    is = ap₂ ◌-ℤ◌ (number_held v h ex) (number_held w h ey);
    half = record {
      half = omega (arith, nat_abs-add (number_of v z) (neg_ℤ (number_of w z)), nat_abs_neg (number_of w z), number_small v z, number_small w z);
    };
  }

module _ {x y : ℤ} (m : Made x y) where
  pub made_fits : SFits w32 x
  made_fits = rw m.is (fits_32 y (omega (arith, m.half.half)))

  pub made_stored : stored x ≡ y
  made_stored = to_z-of_z made_fits ∙ m.is

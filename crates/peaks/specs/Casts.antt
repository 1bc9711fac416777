-- Sizes in 32 signed bits, as the code computes with them. Assumes nothing.
use Rattle.std.specs.Prelude.{ℕ, ◌^◌, ◌≤◌, ◌<◌, ◌≡◌, true, false, ltb, ℤ, pos, nat_abs}
use Rattle.std.proofs.Common.{sym, ap₂, ◌∙◌, ltb-true, ltb-false, to_z}
use Rattle.std.specs.Int.Signed.{lt_z}
use Rattle.std.specs.Int.{w32}
use Rattle.std.proofs.Math.Facts.{to_z_pos}
use Rattle.area.specs.Numbers.{stored, stored-eq}

-- ---- sizes

-- a size as the code holds it
pub size_held : (n : ℕ) → n < 2 ^ 31 → to_z w32 n ≡ pos n
size_held n h = to_z_pos w32 h

-- a test of two sizes
module _ (a : ℕ) (z : ℤ) (ha : a < 2 ^ 31) (hz : nat_abs z < 2 ^ 31) (whole : z ≡ pos (nat_abs z)) where
  sizes_held : lt_z (to_z w32 a) (stored z) ≡ ltb a (nat_abs z)
  sizes_held = ap₂ lt_z (size_held a ha) (stored-eq z hz ∙ whole)

  pub size_below : lt_z (to_z w32 a) (stored z) ≡ true → a < nat_abs z
  size_below e = ltb-true a (nat_abs z) (sym sizes_held ∙ e)

  pub size_above : lt_z (to_z w32 a) (stored z) ≡ false → nat_abs z ≤ a
  size_above e = ltb-false a (nat_abs z) (sym sizes_held ∙ e)

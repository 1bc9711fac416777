-- The signs of four bits, packed as the code makes them: 16843009 less twice the number that has the bits as digits. Assumes nothing.
use Rattle.std.specs.Prelude.{ℕ, ◌+◌, ◌*◌, ◌≤◌, ◌<◌, ◌≡◌, refl, ℤ, pos, neg_ℤ, ◌-ℤ◌, ◌*ℤ◌}
use Rattle.std.proofs.Common.{arith, SFits, to_z-of_z}
use Rattle.std.specs.Int.{w32}
use Rattle.words.specs.Xor.{by_bits}
use Rattle.area.specs.Numbers.{stored, fits_32, nat_abs-add, nat_abs_neg}
use Rattle.hadamard.specs.Correlation.{sign}
use Rattle.quads.specs.Quads.{quad}

-- the number that has the bits a, b, c and d as digits to base 256
abbrev pub code : ℕ → ℕ → ℕ → ℕ → ℕ
code a b c d = a + 256 * b + 65536 * (c + 256 * d)

pub code-le : (a b c d : ℕ) → a < 2 → b < 2 → c < 2 → d < 2 → code a b c d ≤ 16843009
code-le a b c d ha hb hc hd = omega arith

-- z is such a number
module _ {z : ℤ} {x : ℕ} (e : z ≡ pos x) (l : x ≤ 16843009) where
  pub double_fits : SFits w32 (pos 2 *ℤ z)
  double_fits = rw e (fits_32 (pos (2 * x)) (omega arith))

  pub signs_fit : SFits w32 (pos 16843009 -ℤ stored (pos 2 *ℤ z))
  signs_fit =
      rw (to_z-of_z double_fits, e) (fits_32 _ (omega (arith, nat_abs-add (pos 16843009) (neg_ℤ (pos (2 * x))), nat_abs_neg (pos (2 * x)))))

abbrev Signs : ℕ → ℕ → ℕ → ℕ → Type 0
Signs a b c d = stored (pos 16843009 -ℤ stored (pos 2 *ℤ pos (code a b c d))) ≡ quad (sign a) (sign b) (sign c) (sign d)

each_signs : (a b c d : ℕ) → a < 2 → b < 2 → c < 2 → d < 2 → Signs a b c d
each_signs a b c d ha hb hc hd =
    by_bits (λ (a b : ℕ). Signs a b c d)
    (by_bits (Signs 0 0) refl refl refl refl c d hc hd)
    (by_bits (Signs 0 1) refl refl refl refl c d hc hd)
    (by_bits (Signs 1 0) refl refl refl refl c d hc hd)
    (by_bits (Signs 1 1) refl refl refl refl c d hc hd)
    a b ha hb

pub signs_are :
    {z : ℤ} (a b c d : ℕ) → z ≡ pos (code a b c d) → a < 2 → b < 2 → c < 2 → d < 2
    → stored (pos 16843009 -ℤ stored (pos 2 *ℤ z)) ≡ quad (sign a) (sign b) (sign c) (sign d)
signs_are a b c d e ha hb hc hd = rw e (each_signs a b c d ha hb hc hd)

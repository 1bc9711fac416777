-- The transform of 4 bits, as straight code computes it. Assumes nothing.
use Rattle.std.specs.Prelude.{ℕ, ◌+◌, ◌%◌, ◌≡◌, List, ℤ, pos, nat_abs, set}
use Rattle.std.proofs.Math.Path.{refl}
use Rattle.std.proofs.Common.{ap, ap₂, ◌∙◌, to_z, of_z}
use Rattle.std.specs.Int.Bits.{bit_xor}
use Rattle.std.specs.Int.{w32}
use Rattle.area.specs.Area.{at, IsBit}
use Rattle.area.proofs.AreaLaws.{bits_xor, is_bit, xor_stored}
use Rattle.coefficients.specs.TransformLaws.{sum_bit}
use Rattle.parities.specs.Parities.{number_parities}
use Rattle.words.specs.Butterflies.{Entries, halved}
use Rattle.words.specs.ButterflyLaws.{set_three}

-- the number at a place, as the code reads it
abbrev read : List ℤ → ℕ → ℕ
read a i = of_z w32 (at a i)

module _ {a : List ℤ} (e : Entries number_parities 4 2 a) where
  bit_at : (i : ℕ) → IsBit (at a i)
  unfolding number_parities
  bit_at i = e.room.each i

  sum_at : (i j : ℕ) → IsBit (pos ((nat_abs (at a i) + nat_abs (at a j)) % 2))
  sum_at i j = is_bit _ (sum_bit (nat_abs (at a i)) (nat_abs (at a j)))

  pub four_added :
      set (set (set a 1 (to_z w32 (bit_xor (read a 0) (read a 1)))) 2 (to_z w32 (bit_xor (read a 0) (read a 2)))) 3
      (to_z w32 (bit_xor (bit_xor (read a 0) (read a 1)) (bit_xor (read a 2) (read a 3)))) ≡ halved number_parities 2 a
  unfolding number_parities
  four_added =
      set_three number_parities a e.size refl
      (bits_xor (bit_at 0) (bit_at 1))
      (bits_xor (bit_at 0) (bit_at 2))
      (ap (to_z w32) (ap₂ bit_xor (xor_stored (bit_at 0) (bit_at 1)) (xor_stored (bit_at 2) (bit_at 3))) ∙ bits_xor (sum_at 0 1) (sum_at 2 3))

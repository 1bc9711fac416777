-- Numbers of 16 bits as the code reads them, and the range as two tests give it. Assumes nothing.
use Rattle.std.specs.Prelude.{◌<◌, ◌≡◌, ◌&&◌, leb, ltb, ℤ, pos, negsuc, nat_abs}
use Rattle.std.proofs.Common.{to_z, of_z, to_z-of_z}
use Rattle.std.proofs.Math.Bool.{and-true}
use Rattle.std.proofs.Math.Dec.{leb-suc-suc}
use Rattle.std.specs.Int.Signed.{lt_z, mag}
use Rattle.std.specs.Int.{w16}
use Rattle.confidences.specs.Confidences.{greatest}

-- a number as 16 bits hold it
abbrev pub sixteen : ℤ → ℤ
sixteen z = to_z w16 (of_z w16 z)

-- a number that was read from a slice of them fits
module _ (z : ℤ) (h : mag z < 32768) where
  pub sixteen-eq : sixteen z ≡ z
  sixteen-eq = to_z-of_z {w = w16} (record { sfits = h })

  -- both tests of the range at once
  pub inside_test : lt_z (negsuc 2047) (sixteen z) && lt_z (sixteen z) (pos 2048) ≡ leb (nat_abs z) greatest
  inside_test = rw sixteen-eq (go z)
    where
      go : (z : ℤ) → lt_z (negsuc 2047) z && lt_z z (pos 2048) ≡ leb (nat_abs z) greatest
      go (pos n) = leb-suc-suc n 2047
      go (negsuc n) = and-true (ltb n 2047)

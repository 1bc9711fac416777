-- Packed pairs in 32 signed bits, as the code computes with them. Assumes nothing.
use Prim.Native.Nat.{ℕ, ◌+◌, ◌/◌, ◌%◌, ◌^◌, ◌≤◌, ◌<◌}
use mathlib.Core.Path.{◌≡◌, ap, ◌∙◌}
use mathlib.Core.List.{List}
use native.Mathlib.Omega.{arith}
use lib.Dec.{T}
use lib.IntN.{ℤ, pos, nat_abs, ◌+ℤ◌, ◌-ℤ◌}
use lib.Signed.{non_neg}
use mir.Syntax.{w32}
use mir.Val.{Fits, SFits, to_z}
use Rattle.words.specs.Written.{Written}
use Rattle.area.specs.Area.{at}
use Rattle.area.specs.Numbers.{Half, stored, stored-eq, nat_abs-add}
use Rattle.halves.specs.Halves.{raised, first_in, second_of, Packed}
use Rattle.peaks.specs.Stored.{raise_fits, raise_is, raise_casts, lower_is}

-- ---- the numbers of a packed pair

module _ (z : ℤ) (h : nat_abs z < 2097152) where
  abbrev raised_stored : ℤ
  raised_stored = stored (stored z +ℤ pos 2098176)

  pub raised_fits : SFits w32 (stored z +ℤ pos 2098176)
  raised_fits = raise_fits 2098176 z (omega arith) (omega arith)

  pub raised_casts : T (non_neg raised_stored) × Fits w32 (nat_abs raised_stored)
  raised_casts = raise_casts 2098176 z (omega arith) (omega arith)

  raised_is : nat_abs raised_stored ≡ raised z
  raised_is = ap nat_abs (raise_is 2098176 z (omega arith) (omega arith))

  -- the digits are small
  pub first_small : nat_abs raised_stored % 2048 + 1024 < 2 ^ 31
  first_small = omega arith

  pub second_small : nat_abs raised_stored / 2048 + 1024 < 2 ^ 31
  second_small = rw raised_is (omega (arith, nat_abs-add z (pos 2098176)))

  pub first_is : stored (to_z w32 (nat_abs raised_stored % 2048) -ℤ pos 1024) ≡ first_in z
  unfolding first_in
  first_is = lower_is 1024 _ first_small ∙ rw raised_is

  pub second_is : stored (to_z w32 (nat_abs raised_stored / 2048) -ℤ pos 1024) ≡ second_of z
  unfolding second_of
  second_is = lower_is 1024 _ second_small ∙ rw raised_is

-- ---- the size of a pair

-- the pair at i, of which those before it were read already
pub pair_read :
    {h i : ℕ} {f : ℕ → ℤ} {xs ys : List ℤ} → Packed h xs → Written (pos 0) h i f xs ys → i < h → stored (at ys i) ≡ at xs i
pair_read {i = i} {ys = ys} p w l = let e = w.below i l in stored-eq (at ys i) (rw e (omega (arith, p.small i l))) ∙ e

-- one of its numbers
pub number_small : {x y : ℤ} → x ≡ y → nat_abs y ≤ 512 → nat_abs x < 2 ^ 31
number_small e h = rw e (omega arith)

-- r is the absolute value of y
pub record IsSize (r y : ℤ) : Type 0 where
  pub is : r ≡ pos (nat_abs y)
  pub half : Half r

pub size_read : {r x y : ℤ} → r ≡ pos (nat_abs x) → x ≡ y → nat_abs y ≤ 512 → IsSize r y
size_read {r} {x} {y} e q h =
    let is : r ≡ pos (nat_abs y) = e ∙ ap (λ (z : ℤ). pos (nat_abs z)) q in
    record { is = is; half = record { half = omega (arith, ap nat_abs is) } }

-- The numbers of a quad and the sizes of its pairs are small, whatever the quad. Assumes nothing.
use Rattle.std.specs.Prelude.{ℕ, suc, ◌-◌, ◌/◌, ◌%◌, ◌≤◌, ◌<◌, ◌≡◌, refl, Bool, true, false, cond, ltb, ℤ, pos, negsuc, neg_ℤ, nat_abs, ◌+ℤ◌, ◌-ℤ◌}
use Rattle.std.proofs.Common.{arith, ltb-true, ltb-false}
use Rattle.area.specs.Numbers.{nat_abs-add, nat_abs_neg}
use Rattle.quads.specs.Quads.{raised, number_of, sum_size, difference_size}

-- a digit d, less 64, is from -64 to 191
digit_small : (d : ℕ) → d < 256 → nat_abs (pos d -ℤ pos 64) ≤ 191
digit_small d h = go (ltb d 64) refl
  where
    go : (t : Bool) → ltb d 64 ≡ t → nat_abs (cond t (negsuc (64 - suc d)) (pos (d - 64))) ≤ 191
    go true e = omega (arith, ltb-true d 64 e)
    go false e = omega (arith, ltb-false d 64 e)

pub number_small : (w : ℕ) (z : ℤ) → nat_abs (number_of w z) ≤ 191
unfolding number_of
number_small w z = digit_small (raised z / w % 256) (omega arith)

-- the sizes of a pair of sums and of a pair of differences
module _ (v w : ℕ) (z : ℤ) where
  sum_most : nat_abs (number_of v z +ℤ number_of w z) ≤ 382
  sum_most = omega (arith, nat_abs-add (number_of v z) (number_of w z), number_small v z, number_small w z)

  difference_most : nat_abs (number_of v z -ℤ number_of w z) ≤ 382
  difference_most =
      let y = number_of w z in
      omega (arith, nat_abs-add (number_of v z) (neg_ℤ y), nat_abs_neg y, number_small v z, number_small w z)

pub sum_small : (z : ℤ) → sum_size z ≤ 764
sum_small z = omega (arith, sum_most 1 256 z, sum_most 65536 16777216 z)

pub difference_small : (z : ℤ) → difference_size z ≤ 764
difference_small z = omega (arith, difference_most 1 256 z, difference_most 65536 16777216 z)

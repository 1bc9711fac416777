-- Sums mod 2 of numbers that are bits, as a rule of butterflies. Assumes nothing.
use Rattle.std.specs.Prelude.{◌+◌, ◌%◌, ℤ, pos, nat_abs}
use Rattle.area.specs.Area.{IsBit, zero_bit}
use Rattle.area.proofs.AreaLaws.{is_bit}
use Rattle.words.specs.Butterflies.{Rule}
use Rattle.coefficients.specs.TransformLaws.{sum_bit}

-- words of numbers
unfoldable pub number_parities : Rule ℤ
number_parities = record {
  none = pos 0;
  low = λ x y. x;
  high = λ x y. pos ((nat_abs x + nat_abs y) % 2);
  Room = λ j x. IsBit x;
  room_none = λ j. zero_bit;
  room_low = λ j x y hx hy. hx;
  room_high = λ j x y hx hy. is_bit _ (sum_bit (nat_abs x) (nat_abs y));
  room_less = λ j k x l h. h;
}

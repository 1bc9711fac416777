-- The pair of signs of two bits in 32 signed bits, as the code computes it: 2049 - 2 * (x + 2048 * y). Assumes nothing.
use mathlib.Core.Path.{◌≡◌, refl}
use native.Mathlib.Omega.{arith}
use lib.IntN.{ℤ, pos, nat_abs, ◌+ℤ◌, ◌-ℤ◌, ◌*ℤ◌}
use mir.Syntax.{w32}
use mir.Val.{SFits}
use Rattle.area.specs.Area.{IsBit, zero_bit, one_bit}
use Rattle.area.specs.Numbers.{stored}
use Rattle.hadamard.specs.Correlation.{sign}
use Rattle.halves.specs.Halves.{packed}

abbrev coded : ℤ → ℤ → ℤ
coded x y = stored x +ℤ stored (pos 2048 *ℤ stored y)

pub second_fits : {y : ℤ} → IsBit y → SFits w32 (pos 2048 *ℤ stored y)
second_fits zero_bit = record { sfits = omega arith }
second_fits one_bit = record { sfits = omega arith }

pub coded_fits : {x y : ℤ} → IsBit x → IsBit y → SFits w32 (coded x y)
coded_fits zero_bit zero_bit = record { sfits = omega arith }
coded_fits zero_bit one_bit = record { sfits = omega arith }
coded_fits one_bit zero_bit = record { sfits = omega arith }
coded_fits one_bit one_bit = record { sfits = omega arith }

pub double_fits : {x y : ℤ} → IsBit x → IsBit y → SFits w32 (pos 2 *ℤ stored (coded x y))
double_fits zero_bit zero_bit = record { sfits = omega arith }
double_fits zero_bit one_bit = record { sfits = omega arith }
double_fits one_bit zero_bit = record { sfits = omega arith }
double_fits one_bit one_bit = record { sfits = omega arith }

pub signs_fit : {x y : ℤ} → IsBit x → IsBit y → SFits w32 (pos 2049 -ℤ stored (pos 2 *ℤ stored (coded x y)))
signs_fit zero_bit zero_bit = record { sfits = omega arith }
signs_fit zero_bit one_bit = record { sfits = omega arith }
signs_fit one_bit zero_bit = record { sfits = omega arith }
signs_fit one_bit one_bit = record { sfits = omega arith }

pub signs_are :
    {x y : ℤ} → IsBit x → IsBit y
    → stored (pos 2049 -ℤ stored (pos 2 *ℤ stored (coded x y))) ≡ packed (sign (nat_abs x)) (sign (nat_abs y))
signs_are zero_bit zero_bit = refl
signs_are zero_bit one_bit = refl
signs_are one_bit zero_bit = refl
signs_are one_bit one_bit = refl

-- `quarter_packing::quad_at` meets its contract. Assumes nothing.
use Rattle.std.specs.Prelude.{ℕ, ◌+◌, ◌*◌, ◌<◌, List, ℤ}
use native.Mathlib.Omega.{arith}
use Rattle.area.specs.Area.{at, IsBit}
use Rattle.quarter_packing.specs.QuarterSigns.{QuarterBits}
use Rattle.quarter_packing.proofs.SignCasts.{scaled_fits, pair_fits, second_fits, coded_fits, coded_double, coded_rest, coded_signs}
use Rattle.quarter_packing.proofs.quad_at.Goals as goal

-- the bits of quad i
module _ {q i : ℕ} {xs : List ℤ} (asked : (i < q) × QuarterBits q xs) where
  first : IsBit (at xs i)
  first = asked.1.bits.bits i (omega (arith, asked.0))

  second : IsBit (at xs (q + i))
  second = asked.1.bits.bits (q + i) (omega (arith, asked.0))

  third : IsBit (at xs (2 * q + i))
  third = asked.1.bits.bits (2 * q + i) (omega (arith, asked.0))

  fourth : IsBit (at xs (3 * q + i))
  fourth = asked.1.bits.bits (3 * q + i) (omega (arith, asked.0))

pub overflow_mul-x : goal.overflow_mul-x
overflow_mul-x c = scaled_fits (second c.requires)

pub overflow_add-x-2 : goal.overflow_add-x-2
overflow_add-x-2 c = pair_fits (first c.requires) (second c.requires)

pub overflow_mul-y-3 : goal.overflow_mul-y-3
overflow_mul-y-3 c = scaled_fits (fourth c.requires)

pub overflow_add-y-3 : goal.overflow_add-y-3
overflow_add-y-3 c = pair_fits (third c.requires) (fourth c.requires)

pub overflow_mul-result : goal.overflow_mul-result
overflow_mul-result c = second_fits (first c.requires) (second c.requires) (third c.requires) (fourth c.requires)

pub overflow_add-result : goal.overflow_add-result
overflow_add-result c = coded_fits (first c.requires) (second c.requires) (third c.requires) (fourth c.requires)

pub overflow_mul-result-2 : goal.overflow_mul-result-2
overflow_mul-result-2 c = coded_double (first c.requires) (second c.requires) (third c.requires) (fourth c.requires)

pub overflow_sub-result : goal.overflow_sub-result
overflow_sub-result c = coded_rest (first c.requires) (second c.requires) (third c.requires) (fourth c.requires)

pub returns : goal.returns
returns c = coded_signs (first c.requires) (second c.requires) (third c.requires) (fourth c.requires)

-- `half_packing::pack` meets its contract. Assumes nothing.
use Rattle.std.specs.Prelude.{ℕ, ◌+◌, ◌<◌, ◌≡◌, List, ℤ, pos, nat_abs}
use Rattle.std.proofs.Common.{sym, ap₂, subst, ◌∙◌, arith}
use Rattle.words.specs.Written.{Written, written_none, written_more, written_to}
use Rattle.area.specs.Area.{at, Bits, IsBit}
use Rattle.hadamard.specs.Correlation.{sign}
use Rattle.halves.specs.Halves.{packed, signs_packed}
use Rattle.half_packing.proofs.Signs.{second_fits, coded_fits, double_fits, signs_fit, signs_are}
use Rattle.half_packing.proofs.pack.Goals as goal

-- ---- a turn, which finds the bits as they were
module _ {h i : ℕ} {xs ys : List ℤ} (b : Bits (h + h) xs) (w : Written (pos 0) (h + h) i (signs_packed h xs) xs ys) (l : i < h) where
  first : at ys i ≡ at xs i
  first = w.below i (omega arith)

  second : at ys (h + i) ≡ at xs (h + i)
  second = w.below (h + i) (omega arith)

  first_bit : IsBit (at ys i)
  first_bit = subst IsBit (sym first) (b.bits i (omega arith))

  second_bit : IsBit (at ys (h + i))
  second_bit = subst IsBit (sym second) (b.bits (h + i) (omega arith))

  same : packed (sign (nat_abs (at ys i))) (sign (nat_abs (at ys (h + i)))) ≡ signs_packed h xs i
  same = ap₂ (λ (x y : ℤ). packed (sign (nat_abs x)) (sign (nat_abs y))) first second

-- ---- the needs
pub loop-i-init : goal.loop-i-init
loop-i-init c = written_none _ _ _ _

pub overflow_mul-x : goal.overflow_mul-x
overflow_mul-x c = second_fits (second_bit c.requires.2 c.loop-i.invariant (omega arith))

pub overflow_add-x-in-loop-i : goal.overflow_add-x-in-loop-i
overflow_add-x-in-loop-i c =
    coded_fits (first_bit c.requires.2 c.loop-i.invariant (omega arith)) (second_bit c.requires.2 c.loop-i.invariant (omega arith))

pub overflow_mul-area : goal.overflow_mul-area
overflow_mul-area c =
    double_fits (first_bit c.requires.2 c.loop-i.invariant (omega arith)) (second_bit c.requires.2 c.loop-i.invariant (omega arith))

pub overflow_sub-area : goal.overflow_sub-area
overflow_sub-area c =
    signs_fit (first_bit c.requires.2 c.loop-i.invariant (omega arith)) (second_bit c.requires.2 c.loop-i.invariant (omega arith))

pub loop-i-preserved : goal.loop-i-preserved
loop-i-preserved c =
    let b = c.requires.2 in
    let w = c.loop-i.invariant in
    let l : c.loop-i.i < c.args.h = omega arith in
    let signs = signs_are (first_bit b w l) (second_bit b w l) ∙ same b w l in
    written_more w _ _ (omega arith) (omega arith) signs

pub returns : goal.returns
returns c = written_to c.loop-i.invariant c.args.h (omega arith)

-- `direction::insert_zero` meets its contract: the mask keeps the bits below h, and the others count twice. Assumes nothing.
use Prim.Native.Nat.{ℕ, ◌-◌, ◌%◌, ◌^◌}
use mathlib.Core.Path.{◌≡◌, ap, ◌∙◌}
use native.Mathlib.Nat.{div-add-mod'}
use native.Mathlib.Omega.{arith}
use lib.Bits.{bit_and, and_mask}
use lib.Pow.{pow_pos}
use Rattle.direction.proofs.Insert.{insert_sum}
use Rattle.direction.proofs.insert_zero.Goals as goal

-- the bits below h by a mask
masked : (h q s : ℕ) → s ≡ 2 ^ h → bit_and q (s - 1) ≡ q % 2 ^ h
masked h q s e = ap (λ (j : ℕ). bit_and q (j - 1)) e ∙ and_mask q h

pub overflow_sub-low : goal.overflow_sub-low
overflow_sub-low c =
    omega (arith, pow_pos c.args.h)

pub overflow_sub-result : goal.overflow_sub-result
overflow_sub-result c =
    let a = c.args in
    omega (arith, masked a.h a.q _ c.size.ensures, div-add-mod' a.q (2 ^ a.h))

pub returns : goal.returns
returns c =
    let a = c.args in
    (omega (arith, insert_sum a.h a.q, masked a.h a.q _ c.size.ensures, div-add-mod' a.q (2 ^ a.h)), omega arith)

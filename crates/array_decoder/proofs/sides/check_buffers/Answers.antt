-- `array_decoder::sides::check_buffers` meets its contract. Assumes nothing.
use Prim.Native.Nat.{◌+◌, ◌*◌, ◌^◌, max}
use mathlib.Core.Path.{refl}
use mathlib.Core.List.{[]}
use native.Mathlib.Omega.{arith}
use lib.ListN.{length}
use Rattle.refusals.proofs.CheckLaws.{goes_on, handed}
use Rattle.refusals.specs.Refusals.{Checked, byte_checks}
use Rattle.rule.specs.Decoding.{size_checks}
use Rattle.array_decoder.specs.SideLaws.{array_few, array_size, longest_few}
use Rattle.array_decoder.proofs.sides.check_buffers.Goals as goal

pub overflow_mul-n : goal.overflow_mul-n
overflow_mul-n c =
    let p = c.requires in
    rw (c.size-rows.ensures, c.size.ensures) (record { fits = omega (arith, array_few p.0 p.1) })

pub overflow_mul-least : goal.overflow_mul-least
overflow_mul-least c =
    let p = c.requires in
    rw (c.size-least.ensures, c.max.ensures) (record { fits = omega (arith, longest_few p.0 p.1) })

pub returns-in_err-sizes : goal.returns-in_err-sizes
returns-in_err-sizes c =
    let sized : let a = c.args in
    Checked (size_checks (2 ^ (a.mc + a.mr)) (8 * 2 ^ max a.mr a.mc) (length a.word.now) a.room a.area) [] c.sizes.result = rw (c.size-rows.ensures, c.size.ensures, array_size _ _, c.size-least.ensures, c.max.ensures) at c.sizes.ensures in
    handed (byte_checks _) _ refl (sized) c.in_err-sizes.was c.from_residual.ensures.1

pub returns : goal.returns
returns c =
    let sized : let a = c.args in
    Checked (size_checks (2 ^ (a.mc + a.mr)) (8 * 2 ^ max a.mr a.mc) (length a.word.now) a.room a.area) [] c.sizes.result = rw (c.size-rows.ensures, c.size.ensures, array_size _ _, c.size-least.ensures, c.max.ensures) at c.sizes.ensures in
    goes_on _ tt (sized) c.in_ok-sizes.was c.check_bytes.ensures

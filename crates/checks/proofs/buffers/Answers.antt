-- `checks::buffers` meets its contract. Assumes nothing.
use Prim.Native.Nat.{◌*◌, ◌^◌, ◌≤◌}
use mathlib.Core.Path.{refl}
use mathlib.Core.List.{[]}
use native.Mathlib.Omega.{arith}
use lib.ListN.{length}
use lib.Pow.{pow_mono}
use Rattle.refusals.proofs.CheckLaws.{handed, goes_on}
use Rattle.refusals.specs.Refusals.{Checked, byte_checks}
use Rattle.rule.specs.Decoding.{size_checks}
use Rattle.checks.proofs.buffers.Goals as goal

pub overflow_mul-n : goal.overflow_mul-n
overflow_mul-n c =
    let small : 2 ^ c.args.m ≤ 1024 = pow_mono {j = 10} c.requires in
    record { fits = omega (arith, c.size-n.ensures) }

pub returns-in_err-sizes : goal.returns-in_err-sizes
returns-in_err-sizes c =
    let sized : let a = c.args in
    Checked (size_checks (2 ^ a.m) (8 * 2 ^ a.m) (length a.word.now) a.room a.area) [] c.sizes.result = rw c.size-n.ensures at c.sizes.ensures in
    handed (byte_checks _) _ refl (sized) c.in_err-sizes.was c.from_residual.ensures.1

pub returns : goal.returns
returns c =
    let sized : let a = c.args in
    Checked (size_checks (2 ^ a.m) (8 * 2 ^ a.m) (length a.word.now) a.room a.area) [] c.sizes.result = rw c.size-n.ensures at c.sizes.ensures in
    goes_on _ tt (sized) c.in_ok-sizes.was c.check_bytes.ensures

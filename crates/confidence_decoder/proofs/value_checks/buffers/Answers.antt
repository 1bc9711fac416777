-- `confidence_decoder::value_checks::buffers` meets its contract. Assumes nothing.
use Prim.Native.Nat.{◌*◌, ◌^◌, ◌≤◌}
use mathlib.Core.Path.{refl}
use mathlib.Core.List.{[]}
use native.Mathlib.Omega.{arith}
use lib.ListN.{length}
use lib.Pow.{pow_mono}
use Rattle.refusals.proofs.CheckLaws.{err_is}
use Rattle.refusals.specs.Refusals.{Checked}
use Rattle.rule.specs.Decoding.{size_checks}
use Rattle.confidence_decoder.specs.Checked.{range_checks}
use Rattle.confidence_decoder.specs.CheckedLaws.{goes_on_values, stops_values}
use Rattle.confidence_decoder.proofs.value_checks.buffers.Goals as goal

pub overflow_mul-n : goal.overflow_mul-n
overflow_mul-n c =
    let small : 2 ^ c.args.m ≤ 1024 = pow_mono {j = 10} c.requires in
    record { fits = omega (arith, c.size-n.ensures) }

pub returns-in_err-sizes : goal.returns-in_err-sizes
returns-in_err-sizes c =
    let sized : let a = c.args in
    Checked (size_checks (2 ^ a.m) (8 * 2 ^ a.m) (length a.values.now) a.room a.area) [] c.sizes.result = rw c.size-n.ensures at c.sizes.ensures in
    let x = c.args.values.now in
    rw (err_is c.from_residual.ensures.1) (stops_values (range_checks x) x refl (sized) c.in_err-sizes.was)

pub returns : goal.returns
returns c =
    let sized : let a = c.args in
    Checked (size_checks (2 ^ a.m) (8 * 2 ^ a.m) (length a.values.now) a.room a.area) [] c.sizes.result = rw c.size-n.ensures at c.sizes.ensures in
    goes_on_values _ tt (sized) c.in_ok-sizes.was c.range.ensures

-- `gap::check` meets its contract. Assumes nothing.
use mathlib.Core.Path.{refl}
use Prim.Native.Nat.{◌^◌}
use Rattle.rule.specs.Decoding.{buffer_checks}
use Rattle.refusals.proofs.CheckLaws.{handed, goes_on, code_done}
use Rattle.gap.specs.CallLaws.{gap_checked}
use Rattle.gap.proofs.check.Goals as goal

pub returns-in_err-check_code : goal.returns-in_err-check_code
returns-in_err-check_code c =
    let a = c.args in
    gap_checked a.m a.area
    (handed (buffer_checks a.m a.word.now (2 ^ a.m) a.area) _ refl c.check_code.ensures c.in_err-check_code.was c.from_residual.ensures.1)

pub size-n-requires : goal.size-n-requires
size-n-requires c =
    (code_done c.check_code.ensures c.in_ok-check_code.was).most

pub buffers-requires : goal.buffers-requires
buffers-requires c =
    (code_done c.check_code.ensures c.in_ok-check_code.was).most

pub returns : goal.returns
returns c =
    let a = c.args in
    gap_checked a.m a.area
    (goes_on _ tt c.check_code.ensures c.in_ok-check_code.was (rw c.size-n.ensures at c.buffers.ensures))

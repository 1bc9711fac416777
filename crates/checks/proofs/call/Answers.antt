-- `checks::call` meets its contract. Assumes nothing.
use mathlib.Core.Path.{refl}
use Rattle.refusals.proofs.CheckLaws.{handed, goes_on, code_done}
use Rattle.rule.specs.Decoding.{buffer_checks}
use Rattle.checks.proofs.call.Goals as goal

pub returns-in_err-check_code : goal.returns-in_err-check_code
returns-in_err-check_code c =
    handed _ _ refl c.check_code.ensures c.in_err-check_code.was c.from_residual.ensures.1

pub returns-in_err-limits : goal.returns-in_err-limits
returns-in_err-limits c =
    let a = c.args in
    goes_on _ tt c.check_code.ensures c.in_ok-check_code.was
    (handed (buffer_checks a.m a.word.now a.room a.area) _ refl c.limits.ensures c.in_err-limits.was c.from_residual-in_err-limits.ensures.1)

pub buffers-requires : goal.buffers-requires
buffers-requires c =
    (code_done c.check_code.ensures c.in_ok-check_code.was).most

pub returns : goal.returns
returns c =
    goes_on _ tt c.check_code.ensures c.in_ok-check_code.was
    (goes_on _ tt c.limits.ensures c.in_ok-limits.was c.buffers.ensures)

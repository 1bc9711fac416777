-- `confidence_decoder::value_checks::call` meets its contract. Assumes nothing.
use mathlib.Core.Path.{refl}
use Rattle.refusals.proofs.CheckLaws.{code_done, err_is}
use Rattle.confidences.specs.Answers.{value_checks}
use Rattle.confidence_decoder.specs.CheckedLaws.{goes_on_values, stops_values}
use Rattle.confidence_decoder.proofs.value_checks.call.Goals as goal

pub returns-in_err-check_code : goal.returns-in_err-check_code
returns-in_err-check_code c =
    rw (err_is c.from_residual.ensures.1) (stops_values _ _ refl c.check_code.ensures c.in_err-check_code.was)

pub returns-in_err-limits : goal.returns-in_err-limits
returns-in_err-limits c =
    let a = c.args in
    goes_on_values _ tt c.check_code.ensures c.in_ok-check_code.was
    (rw (err_is c.from_residual-in_err-limits.ensures.1) (stops_values (value_checks a.by.m a.values.now a.room a.area) _ refl c.limits.ensures c.in_err-limits.was))

pub buffers-requires : goal.buffers-requires
buffers-requires c =
    (code_done c.check_code.ensures c.in_ok-check_code.was).most

pub returns : goal.returns
returns c =
    goes_on_values _ tt c.check_code.ensures c.in_ok-check_code.was
    (goes_on_values _ tt c.limits.ensures c.in_ok-limits.was c.buffers.ensures)

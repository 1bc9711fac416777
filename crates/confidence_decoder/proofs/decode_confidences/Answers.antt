-- `confidence_decoder::decode_confidences` meets its contract. Assumes nothing.
use mathlib.Core.Path.{refl}
use Rattle.refusals.proofs.CheckLaws.{err_is}
use Rattle.confidences.specs.Answers.{confidence_call}
use Rattle.confidence_decoder.proofs.Calls.{checks_refused, passed_decodes, passed_runs, values_passed}
use Rattle.confidence_decoder.proofs.decode_confidences.Goals as goal

pub returns-in_err-call : goal.returns-in_err-call
unfolding confidence_call
returns-in_err-call c =
    rw (err_is c.from_residual.ensures.1) (checks_refused c.call.ensures _ _ _ _ _ _ refl c.in_err-call.was)

pub run-requires : goal.run-requires
run-requires c =
    let a = c.args in
    passed_runs a.m a.r a.rounds a.leaves a.values.now a.out.now a.area.now (values_passed c.call.ensures c.in_ok-call.was)

pub returns : goal.returns
unfolding confidence_call
returns c =
    passed_decodes _ _ _ _ _ (values_passed c.call.ensures c.in_ok-call.was) c.run.ensures

-- `decoder::decode` meets its contract. Assumes nothing.
use mathlib.Core.Path.{refl}
use Rattle.refusals.proofs.CheckLaws.{err_is, none_refused}
use Rattle.rule.specs.Decoding.{decode_call}
use Rattle.decoder.proofs.Whole.{checks_refused, passed_decodes, passed_runs}
use Rattle.decoder.proofs.decode.Goals as goal

pub returns-in_err-call : goal.returns-in_err-call
unfolding decode_call
returns-in_err-call c =
    rw (err_is c.from_residual.ensures.1) (checks_refused c.call.ensures _ _ _ _ refl c.in_err-call.was)

pub run-requires : goal.run-requires
run-requires c =
    passed_runs _ _ _ _ _ _ _ (none_refused c.call.ensures c.in_ok-call.was)

pub returns : goal.returns
unfolding decode_call
returns c =
    passed_decodes _ (none_refused c.call.ensures c.in_ok-call.was) c.run.ensures

-- `array_decoder::sides::check_limits` meets its contract. Assumes nothing.
use mathlib.Core.Path.{refl}
use Rattle.refusals.proofs.CheckLaws.{goes_on, handed}
use Rattle.rule.specs.Decoding.{limit_checks}
use Rattle.array_decoder.proofs.sides.check_limits.Goals as goal

pub returns-in_err-check_side : goal.returns-in_err-check_side
returns-in_err-check_side c =
    handed _ _ refl c.check_side.ensures c.in_err-check_side.was c.from_residual.ensures.1

pub returns-in_err-check_side-2 : goal.returns-in_err-check_side-2
returns-in_err-check_side-2 c =
    let a = c.args.codes in
    goes_on _ tt c.check_side.ensures c.in_ok-check_side.was
    (handed (limit_checks a.rounds a.leaves) _ refl c.check_side-2.ensures c.in_err-check_side-2.was c.from_residual-in_err-check_side-2.ensures.1)

pub returns : goal.returns
returns c =
    goes_on _ tt c.check_side.ensures c.in_ok-check_side.was
    (goes_on _ tt c.check_side-2.ensures c.in_ok-check_side-2.was c.limits.ensures)

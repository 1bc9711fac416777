-- `codec_checks::check_message` meets its contract. Assumes nothing.
use mathlib.Core.Path.{refl}
use Rattle.refusals.proofs.CheckLaws.{handed, goes_on, code_done}
use Rattle.codec_checks.proofs.check_message.Goals as goal

pub returns-in_err-check_code : goal.returns-in_err-check_code
returns-in_err-check_code c =
    handed _ _ refl c.check_code.ensures c.in_err-check_code.was c.from_residual.ensures.1

pub size-n-requires : goal.size-n-requires
size-n-requires c =
    (code_done c.check_code.ensures c.in_ok-check_code.was).most

pub dimension-requires : goal.dimension-requires
dimension-requires c =
    let code = code_done c.check_code.ensures c.in_ok-check_code.was in
    (code.most, code.order)

pub returns : goal.returns
returns c =
    let n = c.size-n in
    goes_on _ tt c.check_code.ensures c.in_ok-check_code.was
    (rw (n.ensures, c.dimension.ensures) at c.check_buffers.ensures)

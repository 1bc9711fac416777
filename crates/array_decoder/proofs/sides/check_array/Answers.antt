-- `array_decoder::sides::check_array` meets its contract. Assumes nothing.
use mathlib.Core.Path.{refl}
use Rattle.refusals.proofs.CheckLaws.{goes_on, handed}
use Rattle.arrays.specs.Arrays.{array_buffers}
use Rattle.array_decoder.specs.SideLaws.{limits_done}
use Rattle.array_decoder.proofs.sides.check_array.Goals as goal

pub returns-in_err-check_limits : goal.returns-in_err-check_limits
returns-in_err-check_limits c =
    let a = c.args in
    handed (array_buffers a.codes.mr a.codes.mc a.word.now a.room a.area) _ refl c.check_limits.ensures c.in_err-check_limits.was c.from_residual.ensures.1

pub check_buffers-requires : goal.check_buffers-requires
check_buffers-requires c =
    let a = c.args in
    let p = limits_done a.codes.mr a.codes.rr a.codes.mc a.codes.rc a.codes.rounds a.codes.leaves c.check_limits.ensures c.in_ok-check_limits.was in
    (p.across.most, p.down.most)

pub returns : goal.returns
returns c =
    goes_on _ tt c.check_limits.ensures c.in_ok-check_limits.was c.check_buffers.ensures

-- `decoder::decode_profile` meets its contract. Assumes nothing.
use native.Mathlib.Omega.{arith}
use mathlib.Core.Path.{refl}
use borrow.Author.Tests.{lt-leb}
use Rattle.refusals.proofs.CheckLaws.{err_is, fails, none_refused, refuses}
use Rattle.refusals.specs.declared.Refusal.TheVariants.{Profile}
use Rattle.rule.specs.Decoding.{decode_profile_call}
use Rattle.decoder.proofs.Whole.{checks_refused, passed_decodes, profile_checked, profile_runs, profile_small}
use Rattle.decoder.proofs.decode_profile.Goals as goal

pub returns-then-profile-gt4 : goal.returns-then-profile-gt4
unfolding decode_profile_call
returns-then-profile-gt4 c =
    rw c.from.ensures (checks_refused (refuses Profile refl (fails 14 _ _ (lt-leb _ 4 c.if-profile-gt4.true))) _ _ _ _ refl refl)

pub buffers-requires : goal.buffers-requires
buffers-requires c =
    profile_small _ c.by_number-p.ensures (omega (arith, c.if-profile-gt4.false))

pub returns-in_err-buffers : goal.returns-in_err-buffers
unfolding decode_profile_call
returns-in_err-buffers c =
    let checked = profile_checked _ c.by_number-p.ensures (omega (arith, c.if-profile-gt4.false)) _ _ c.buffers.ensures in
    rw (err_is c.from_residual.ensures.1) (checks_refused checked _ _ _ _ refl c.in_err-buffers.was)

pub run-requires : goal.run-requires
run-requires c =
    profile_runs _ c.by_number-p.ensures (omega (arith, c.if-profile-gt4.false)) _ _ _ (none_refused c.buffers.ensures c.in_ok-buffers.was)

pub returns : goal.returns
unfolding decode_profile_call
returns c =
    let checked = profile_checked _ c.by_number-p.ensures (omega (arith, c.if-profile-gt4.false)) _ _ c.buffers.ensures in
    passed_decodes _ (none_refused checked c.in_ok-buffers.was) (rw c.by_number-p.ensures at c.run.ensures)

-- `load::starts::check_start` meets its contract: each return is a check that fails, or none. Assumes nothing.
use mathlib.Core.Path.{refl, ap}
use native.Mathlib.Omega.{arith}
use Rattle.refusals.proofs.CheckLaws.{err_is}
use Rattle.tables.specs.Tables.{is_there, some}
use Rattle.tables.specs.Slots.{given, not_given}
use Rattle.load.specs.CallLaws.{may_start, no_entry, no_start, too_many}
use Rattle.load.proofs.starts.check_start.Goals as goal

pub returns-in_err-entry : goal.returns-in_err-entry
returns-in_err-entry c =
    let q = not_given c.args.slot _ _ c.in_err-entry.ensures.value in
    rw (err_is c.from_residual.ensures.1, q.1) (no_entry _ _ _ (ap is_there q.0))

pub size-n-requires : goal.size-n-requires
size-n-requires c =
    let e = given c.args.slot _ c.in_ok-entry.entry c.in_ok-entry.ensures.value in
    (rw e at c.requires.limits refl).small

pub returns-then-state-eq0 : goal.returns-then-state-eq0
returns-then-state-eq0 c =
    let e = given c.args.slot _ c.in_ok-entry.entry c.in_ok-entry.ensures.value in
    no_start _ _ _ (ap is_there e) c.if-state-eq0.true

pub returns-then-n-asked : goal.returns-then-n-asked
returns-then-n-asked c =
    let e = given c.args.slot _ c.in_ok-entry.entry c.in_ok-entry.ensures.value in
    rw e (too_many (some c.in_ok-entry.entry) _ _ refl c.if-state-eq0.false (omega (arith, c.size-n.ensures)))

pub returns : goal.returns
returns c =
    let e = given c.args.slot _ c.in_ok-entry.entry c.in_ok-entry.ensures.value in
    rw e (may_start _ _ _ c.if-state-eq0.false (omega (arith, c.size-n.ensures)))

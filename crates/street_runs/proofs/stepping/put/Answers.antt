-- `street_runs::stepping::put` meets its contract. Assumes nothing.
use native.Mathlib.Omega.{arith}
use lib.ListN.{length-set}
use Rattle.street_runs.specs.RunLaws.{log_full, log_room}
use Rattle.street_runs.proofs.stepping.put.Goals as goal

pub returns-then-log-i : goal.returns-then-log-i
returns-then-log-i c =
    log_full _ _ _ _ _ c.if-log-i.true

pub bounds-log-at-2 : goal.bounds-log-at-2
bounds-log-at-2 c =
    simp length-set (omega arith)

pub bounds-log-at-3 : goal.bounds-log-at-3
bounds-log-at-3 c =
    simp length-set (omega arith)

pub returns : goal.returns
returns c =
    log_room _ _ _ _ _ (omega arith)

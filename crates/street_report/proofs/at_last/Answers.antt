-- `street_report::at_last` meets its contract: each return follows from the test. Assumes nothing.
use native.Mathlib.Omega.{arith}
use borrow.Author.Tests.{eq-eqb, ne_eqb}
use Rattle.street_report.proofs.at_last.Goals as goal

pub returns-then-attempt-retries : goal.returns-then-attempt-retries
returns-then-attempt-retries c =
    simp (eq-eqb c.args.attempt c.args.retries (omega arith))

pub returns : goal.returns
returns c =
    simp (ne_eqb c.args.attempt c.args.retries (λ e. absurd (omega arith)))

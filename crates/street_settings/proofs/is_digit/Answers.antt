-- `street_settings::is_digit` meets its contract: each return follows from the test on the way. Assumes nothing.
use borrow.Author.Tests.{lt-leb, le-leb}
use native.Mathlib.Omega.{arith}
use Rattle.street_settings.proofs.is_digit.Goals as goal

pub returns-then-b-lt48 : goal.returns-then-b-lt48
returns-then-b-lt48 c =
    simp (lt-leb _ _ c.if-b-lt48.true)

pub returns : goal.returns
returns c =
    simp (le-leb 48 c.args.b (omega arith))

-- `capture::find_record` meets its contract: the part from the position on is what is left of the capture. Assumes nothing.
use native.Mathlib.Omega.{arith}
use Rattle.capture.specs.Cases.{past_end}
use Rattle.capture.proofs.find_record.Goals as goal

pub returns-then-capture-at : goal.returns-then-capture-at
returns-then-capture-at g c =
    past_end (g.P.Profiles.table c.args.profiles.now) _ _ _ (omega arith)

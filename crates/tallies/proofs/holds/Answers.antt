-- `tallies::holds` meets its contract: names are the same where their bytes are. Assumes nothing.
use Rattle.std.proofs.Common.{arith, ◌∙◌}
use Rattle.tallies.specs.StoreLaws.{bytes_name}
use Rattle.tallies.proofs.holds.Goals as goal

pub returns-in-Some : goal.returns-in-Some
returns-in-Some c = rw c.in-Some.is (c.eq.ensures ∙ bytes_name c.in-Some.held.name c.args.name (omega arith) (omega arith))

-- `tallies::return_in` meets its contract. Assumes nothing.
use Rattle.std.proofs.Common.{sym, ◌∙◌}
use Rattle.tallies.specs.StoreLaws.{returns_none, returns_some}
use Rattle.tallies.proofs.return_in.Goals as goal

pub returns-in-Some : goal.returns-in-Some
returns-in-Some c = returns_some c.args.state.now.store c.args.name c.args.state.now.tally (sym c.held.ensures ∙ c.in-Some.is)

pub returns-in-None : goal.returns-in-None
returns-in-None c = returns_none c.args.state.now.store c.args.name c.args.state.now.tally (sym c.held.ensures ∙ c.in-None.is)

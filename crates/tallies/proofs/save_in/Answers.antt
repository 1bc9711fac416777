-- `tallies::save_in` meets its contract. Assumes nothing.
use Rattle.std.proofs.Common.{refl, sym, ◌∙◌}
use Rattle.tallies.specs.StoreLaws.{found_none, found_some, full, saves}
use Rattle.tallies.proofs.save_in.Goals as goal

pub returns-in-Some : goal.returns-in-Some
returns-in-Some c =
    let f = found_some _ (sym c.room.ensures ∙ c.in-Some.is) in
    saves c.args.state.now.store c.args.name c.args.state.now.tally f.0 f.1

pub returns-in-None : goal.returns-in-None
returns-in-None c = full c.args.state.now.store c.args.name c.args.state.now.tally refl (found_none _ (sym c.room.ensures ∙ c.in-None.is))

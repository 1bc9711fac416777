-- `tallies::drop_in` meets its contract. Assumes nothing.
use Rattle.std.proofs.Common.{arith, refl, sym, ◌∙◌}
use Rattle.tallies.specs.StoreLaws.{drops, found_none, found_some, held_found, not_dropped}
use Rattle.tallies.proofs.drop_in.Goals as goal

pub returns-in-Some : goal.returns-in-Some
returns-in-Some c =
    let f = found_some _ (sym (held_found c.args.state.now.store (omega arith) c.args.name) ∙ sym c.find.ensures ∙ c.in-Some.is) in
    drops c.args.state.now.store c.args.name c.args.state.now.tally f.0 f.1

pub returns-in-None : goal.returns-in-None
returns-in-None c =
    not_dropped c.args.state.now.store c.args.name c.args.state.now.tally refl
    (found_none _ (sym (held_found c.args.state.now.store (omega arith) c.args.name) ∙ sym c.find.ensures ∙ c.in-None.is))

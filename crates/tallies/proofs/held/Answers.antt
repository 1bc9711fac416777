-- `tallies::held` meets its contract. Assumes nothing.
use Rattle.std.proofs.Common.{arith, sym, ◌∙◌}
use Rattle.tallies.specs.StoreLaws.{found_none, found_some, held_found, never_free, tally_none, tally_some}
use Rattle.tallies.proofs.held.Goals as goal

pub returns-in_err-at : goal.returns-in_err-at
returns-in_err-at c =
    c.from_residual.ensures ∙ tally_none c.args.store.now c.args.name (found_none _ (sym (held_found c.args.store.now (omega arith) c.args.name) ∙ sym c.find.ensures ∙ c.in_err-at.was))

pub returns-in_err-place : goal.returns-in_err-place
returns-in_err-place c =
    let f = found_some _ (sym (held_found c.args.store.now (omega arith) c.args.name) ∙ sym c.find.ensures ∙ c.in_ok-at.was) in
    absurd (never_free c.args.store.now c.args.name f.0 f.1 c.in_err-place.was)

pub returns : goal.returns
returns c =
    let f = found_some _ (sym (held_found c.args.store.now (omega arith) c.args.name) ∙ sym c.find.ensures ∙ c.in_ok-at.was) in
    tally_some c.args.store.now c.args.name f.0 f.1 c.in_ok-place.was

-- `tallies::room` meets its contract. Assumes nothing.
use Rattle.std.proofs.Common.{ap, arith, refl, sym, ◌∙◌}
use Rattle.tallies.specs.Store.{found}
use Rattle.tallies.specs.StoreLaws.{found_is, found_none, found_some, free_found, held_found, room_free, room_own}
use Rattle.tallies.proofs.room.Goals as goal

pub returns-in-Some : goal.returns-in-Some
returns-in-Some c =
    let f = found_some _ (sym (held_found c.args.store.now (omega arith) c.args.name) ∙ sym c.find.ensures ∙ c.in-Some.is) in
    found_is _ (room_own c.args.store.now c.args.name f.0 f.1) f.1

pub returns-in-None : goal.returns-in-None
returns-in-None c =
    let l = found_none _ (sym (held_found c.args.store.now (omega arith) c.args.name) ∙ sym c.find.ensures ∙ c.in-None.is) in
    c.free.ensures ∙ free_found c.args.store.now (omega arith) ∙ ap found (room_free c.args.store.now c.args.name refl l refl)

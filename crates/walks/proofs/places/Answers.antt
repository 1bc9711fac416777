-- `walks::places` meets its contract. Assumes nothing.
use Rattle.std.proofs.Common.{ℕ, ◌^◌, ◌≤◌, ap, ◌∙◌, subst, sym}
use Rattle.tables.specs.Tables.{Slot, held, ours}
use Rattle.walks.specs.PlaceLaws.{exponent_small, places_few}
use Rattle.walks.proofs.places.Goals as goal

pub size-requires : goal.size-requires
size-requires c =
    let e = ap held (sym c.in-Some.is ∙ c.look.ensures.0) in
    rw e (exponent_small ours c.args.profile)

pub returns-in-Some : goal.returns-in-Some
returns-in-Some c =
    let e = c.size.ensures ∙ ap (λ (s : Slot). 2 ^ (held s).m) (sym c.in-Some.is ∙ c.look.ensures.0) in
    (e, subst (λ (n : ℕ). n ≤ 1024) (sym e) (places_few ours c.args.profile))

pub returns-in-None : goal.returns-in-None
returns-in-None c =
    let e = ap (λ (s : Slot). 2 ^ (held s).m) (sym c.in-None.is ∙ c.look.ensures.0) in
    (e, subst (λ (n : ℕ). n ≤ 1024) (sym e) (places_few ours c.args.profile))

-- `packing::loads::pack_next` meets its contract. Assumes nothing.
use Prim.Native.Nat.{ℕ}
use mathlib.Core.Path.{sym, ap, ◌∙◌}
use Rattle.refusals.specs.Refusals.{answer_number, Answer}
use Rattle.packing.specs.Loads.{pack_next}
use Rattle.packing.proofs.loads.pack_next.Goals as goal

pub returns-in-Ok : goal.returns-in-Ok
returns-in-Ok c =
    let a = c.args.next in
    c.pack.ensures ∙ ap (λ (x : Answer). pack_next (answer_number x) a.short a.state) (sym c.in-Ok.is)

pub returns-in-Err : goal.returns-in-Err
returns-in-Err c =
    let a = c.args.next in
    c.pack-in-Err.ensures ∙ ap (λ (x : ℕ). pack_next x a.short a.state) c.number.ensures
    ∙ ap (λ (x : Answer). pack_next (answer_number x) a.short a.state) (sym c.in-Err.is)

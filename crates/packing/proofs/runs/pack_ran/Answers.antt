-- `packing::runs::pack_ran` meets its contract. Assumes nothing.
use Prim.Native.Nat.{ℕ}
use mathlib.Core.Path.{sym, ap, ◌∙◌}
use Rattle.refusals.specs.Refusals.{answer_number, Answer}
use Rattle.packing.specs.Streets.{pack_ran}
use Rattle.packing.proofs.runs.pack_ran.Goals as goal

pub returns-in-Ok : goal.returns-in-Ok
returns-in-Ok c =
    let a = c.args.ran in
    c.pack.ensures ∙ ap (λ (x : Answer). pack_ran (answer_number x) a.sent a.none_left) (sym c.in-Ok.is)

pub returns-in-Err : goal.returns-in-Err
returns-in-Err c =
    let a = c.args.ran in
    c.pack-in-Err.ensures ∙ ap (λ (x : ℕ). pack_ran x a.sent a.none_left) c.number.ensures
    ∙ ap (λ (x : Answer). pack_ran (answer_number x) a.sent a.none_left) (sym c.in-Err.is)

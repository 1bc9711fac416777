-- `gap::gap` meets its contract. Assumes nothing.
use Prim.Native.Nat.{ℕ, ◌≤◌}
use mathlib.Core.Path.{◌≡◌, sym, ap, ◌∙◌}
use native.Mathlib.Omega.{arith}
use lib.IntN.{ℤ, pos}
use lib.ListN.{length, replicate}
use borrow.Author.Rules.{rules}
use Rattle.refusals.proofs.CheckLaws.{err_is, none_refused}
use Rattle.words.specs.Parts.{front_length}
use Rattle.gap.specs.CallLaws.{gap_done, gap_passed, gap_refused}
use Rattle.gap.proofs.gap.Goals as goal

pub returns-in_err-check : goal.returns-in_err-check
returns-in_err-check c =
    rw (err_is c.from_residual.ensures.1) (gap_refused _ c.check.ensures c.in_err-check.was)

pub size-n-requires : goal.size-n-requires
size-n-requires c =
    let ok = gap_passed _ _ _ (none_refused c.check.ensures c.in_ok-check.was) in
    ok.most

pub slice_bounds-measure-end : goal.slice_bounds-measure-end
slice_bounds-measure-end c =
    let ok = gap_passed _ _ _ (none_refused c.check.ensures c.in_ok-check.was) in
    let fits : c.size-n.result ≤ length c.args.area.now = omega (arith, c.size-n.ensures, ok.room) in
    fits

pub measure-g-requires : goal.measure-g-requires
measure-g-requires c =
    let ok = gap_passed _ _ _ (none_refused c.check.ensures c.in_ok-check.was) in
    let fits : c.size-n.result ≤ length c.args.area.now = omega (arith, c.size-n.ensures, ok.room) in
    record {
      some = ok.some;
      most = ok.most;
      input = ok.input;
      room = front_length {A = ℤ} _ _ (fits) ∙ c.size-n.ensures;
    }

pub returns : goal.returns
returns c =
    let long : length c.fill.new.area ≡ length c.args.area.now = search rules in
    gap_done (sym (none_refused c.check.ensures c.in_ok-check.was)) c.measure-g.ensures (c.fill.ensures ∙ ap (λ (n : ℕ). replicate n (pos 0)) (sym c.fill.auto.area ∙ long))

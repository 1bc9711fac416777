-- `messages::dimension` meets its contract: c is a binomial, and k the sum of those up to it. Assumes nothing.
use Prim.Native.Nat.{ℕ, ◌+◌, ◌*◌, ◌-◌, ◌/◌, ◌≤◌}
use mathlib.Core.Path.{◌≡◌, refl, sym, ap, ap₂, ◌∙◌}
use native.Mathlib.Nat.{mul-le-mul}
use native.Mathlib.Numerals.{add-one}
use native.Mathlib.Omega.{arith}
use Rattle.words.specs.Sum.{sum_below, total}
use Rattle.code.specs.Dimension.{choose}
use Rattle.code.proofs.Dimension.{choose_next, choose_small, dimension-choose}
use Rattle.messages.proofs.dimension.Goals as goal

pub loop-i-init : goal.loop-i-init
unfolding total choose
loop-i-init c =
    (omega arith, refl, refl)

pub overflow_mul-c : goal.overflow_mul-c
overflow_mul-c c =
    let small : c.loop-i.c ≤ 1024 = omega (arith, choose_small c.args.m c.loop-i.i c.requires.0) in
    let few : c.args.m - c.loop-i.i ≤ 10 = omega arith in
    omega (arith, mul-le-mul (small) few)

pub overflow_add-k : goal.overflow_add-k
overflow_add-k c =
    let next : c.loop-i.c * (c.args.m - c.loop-i.i) / (c.loop-i.i + 1) ≡ choose c.args.m (c.loop-i.i + 1) = rw c.loop-i.invariant.1 (choose_next _ _ (omega arith)) in
    omega (arith, next, choose_small c.args.m (c.loop-i.i + 1) c.requires.0)

pub loop-i-preserved : goal.loop-i-preserved
unfolding total
loop-i-preserved c =
    let next : c.loop-i.c * (c.args.m - c.loop-i.i) / (c.loop-i.i + 1) ≡ choose c.args.m (c.loop-i.i + 1) = rw c.loop-i.invariant.1 (choose_next _ _ (omega arith)) in
    let l = c.loop-i in
    let m = c.args.m in (
      omega (arith, next, choose_small m (l.i + 1) c.requires.0),
      next,
      ap₂ ◌+◌ l.invariant.2 (next) ∙ ap (λ (n : ℕ). sum_below n (choose m)) (sym (add-one (l.i + 1))),
    )

pub returns : goal.returns
returns c =
    let l = c.loop-i in
    let a = c.args in
    l.invariant.2 ∙ ap (λ (n : ℕ). sum_below n (choose a.m)) (omega arith) ∙ sym (dimension-choose a.m a.r)

-- `peaks::keys` meets its contract. Assumes nothing.
use Prim.Native.Nat.{ℕ, ◌≤◌}
use mathlib.Core.Path.{◌≡◌, refl, sym, ap, ◌∙◌}
use native.Mathlib.Omega.{arith}
use lib.ListN.{length}
use mir.Syntax.{w32}
use mir.Val.{of_z, to_z}
use Rattle.std.proofs.Common.{to_z-of_z}
use Rattle.area.specs.Area.{at, size_at}
use Rattle.peaks.specs.Peaks.{keys_below}
use Rattle.peaks.specs.Keys.{keys_none, keys_hit, keys_miss, keys_most}
use Rattle.peaks.proofs.keys.Goals as goal
use Rattle.peaks.proofs.keys.Goals.{then-x-g, else-x-g}

pub loop-x-init : goal.loop-x-init
loop-x-init c = (refl, sym (keys_none (size_at c.args.sizes.now) (of_z w32 (to_z w32 (of_z w32 c.args.g)))))

pub overflow_add-sum : goal.overflow_add-sum
overflow_add-sum c =
    let l = c.loop-x in
    let few : l.x-index ≤ 512 = omega (arith, c.requires.sizes.few) in
    omega (arith, keys_most (size_at c.args.sizes.now) (of_z w32 (to_z w32 (of_z w32 c.args.g))) l.x-index few)

pub loop-x-preserved : goal.loop-x-preserved
loop-x-preserved c =
    let l = c.loop-x in
    let f = size_at c.args.sizes.now in
    let g = of_z w32 c.args.g in
    let e : of_z w32 (to_z w32 g) ≡ g = ap (of_z w32) (to_z-of_z c.ranges.g) in
    let x : of_z w32 (at c.args.sizes.now l.x-index) ≡ f l.x-index = ap (of_z w32) (c.requires.sizes.whole l.x-index (omega arith)) in (
      omega arith,
      elim c.if-x-g.branch [
        | then-x-g w ↦ rw e (omega (arith, rw e at l.invariant.1, keys_hit f g l.x-index (sym x ∙ w.if-x-g.true), w.sum-is))
        | else-x-g w ↦ rw e (omega (arith, rw e at l.invariant.1, keys_miss f g l.x-index (λ q. w.if-x-g.false (x ∙ q)), w.sum-is))
      ],
    )

pub returns : goal.returns
returns c =
    let l = c.loop-x in
    let f = size_at c.args.sizes.now in
    let e : l.x-index ≡ length c.args.sizes.now = omega arith in
    let z : to_z w32 (of_z w32 c.args.g) ≡ c.args.g = to_z-of_z c.ranges.g in
    l.invariant.1 ∙ ap (λ (n : ℕ). keys_below n f (of_z w32 (to_z w32 (of_z w32 c.args.g)))) e ∙ ap (keys_below _ f) (ap (of_z w32) (z ∙ c.requires.g_value))

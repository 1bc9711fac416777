-- `value_orders::pairs::ends` meets its contract. Assumes nothing.
use Prim.Native.Nat.{◌-◌, ◌^◌, ◌<◌}
use mathlib.Core.Path.{◌≡◌, refl, ap, ◌∙◌}
use native.Mathlib.Omega.{arith}
use lib.IntN.{pos, ◌-ℤ◌}
use mir.Syntax.{w32}
use mir.Val.{of_z, to_z}
use Rattle.std.proofs.Common.{to_z-of_z}
use Rattle.std.proofs.Math.Facts.{of_z-to_z}
use Rattle.peaks.specs.Peaks.{pair_sizes}
use Rattle.peaks.specs.PairLaws.{pair_asked, pair_small, pair_is}
use Rattle.value_orders.specs.KeyLaws.{down_is, key_fits, key_is}
use Rattle.peaks.specs.Searches.{Greatest, greatest_none, greatest_read, greatest_new, greatest_kept}
use Rattle.value_orders.specs.Places.{up_key, down_key}
use Rattle.value_orders.proofs.pairs.ends.Goals as goal
use Rattle.value_orders.proofs.pairs.ends.Goals.{then-last-y, else-last-y, then-first-z, else-first-z}

pub loop-i-init : goal.loop-i-init
loop-i-init c =
    (greatest_none, greatest_none)

pub size_of-x-requires : goal.size_of-x-requires
size_of-x-requires c =
    pair_asked c.requires c.loop-i-test.true

pub overflow_add-z : goal.overflow_add-z
overflow_add-z c =
    let l = c.loop-i-test.true in
    let down : of_z w32 (pos 511 -ℤ to_z w32 c.loop-i.i) ≡ 511 - c.loop-i.i = down_is (omega (arith, c.requires.few)) in
    key_fits (pair_is c.requires l c.size_of-x.ensures) (pair_small c.requires l) (omega (arith, down))

pub loop-i-preserved : goal.loop-i-preserved
loop-i-preserved c =
    let l = c.loop-i in
    let e = pair_is c.requires c.loop-i-test.true c.size_of-x.ensures in
    let small : pair_sizes c.args.h c.args.part.now l.i < 2 ^ 21 = pair_small c.requires c.loop-i-test.true in
    let up-small : l.i < 512 = omega (arith, c.requires.few) in
    let down-at : of_z w32 (pos 511 -ℤ to_z w32 l.i) ≡ 511 - l.i = down_is up-small in
    let down-small : of_z w32 (pos 511 -ℤ to_z w32 l.i) < 512 = omega (arith, down-at) in
    let last = key_is e small up-small refl in
    let first = key_is e small down-small down-at in
    let g : Greatest l.i (up_key (pair_sizes c.args.h c.args.part.now)) l.last-bits = rw (of_z-to_z l.auto.last) at l.invariant.0 in
    let h : Greatest l.i (down_key (pair_sizes c.args.h c.args.part.now)) l.first-bits = rw (of_z-to_z l.auto.first) at l.invariant.1 in (
      elim c.if-last-y.branch [
        | then-last-y w ↦ greatest_new g last (omega (arith, small, up-small)) w.if-last-y.true (ap (of_z w32) (w.last-is ∙ to_z-of_z (key_fits e small up-small)))
        | else-last-y w ↦ greatest_kept g last (omega (arith, small, up-small)) w.if-last-y.false (ap (of_z w32) w.last-is ∙ of_z-to_z l.auto.last)
      ],
      elim c.if-first-z.branch [
        | then-first-z w ↦ greatest_new h first (omega (arith, small)) w.if-first-z.true (ap (of_z w32) (w.first-is ∙ to_z-of_z (key_fits e small down-small)))
        | else-first-z w ↦ greatest_kept h first (omega (arith, small)) w.if-first-z.false (ap (of_z w32) w.first-is ∙ of_z-to_z l.auto.first)
      ],
    )

pub returns : goal.returns
returns c =
    let e : c.loop-i.i ≡ c.args.h = omega arith in
    record { last_value = greatest_read (rw (of_z-to_z c.loop-i.auto.last) at c.loop-i.invariant.0) e; first_value = greatest_read (rw (of_z-to_z c.loop-i.auto.first) at c.loop-i.invariant.1) e }

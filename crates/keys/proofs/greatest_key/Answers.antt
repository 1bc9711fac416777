-- `keys::greatest_key` meets its contract. Assumes nothing.
use Prim.Native.Nat.{ℕ, ◌+◌, ◌≤◌, ◌<◌, max}
use mathlib.Core.Path.{◌≡◌, refl, sym, ap, ap₂, ◌∙◌}
use native.Mathlib.Omega.{arith}
use lib.ListN.{length}
use lib.IntN.{pos}
use mir.Syntax.{w32}
use mir.Val.{of_z, to_z}
use mir.Facts.{to_z_pos, of_z-to_z}
use Rattle.words.specs.Sum.{total, greatest_below}
use Rattle.area.specs.Area.{at}
use Rattle.hadamard.specs.Peak.{greatest_more}
use Rattle.peaks.specs.Stored.{as_it_is}
use Rattle.keys.specs.Keys.{key_of, greatest_key}
use Rattle.keys.proofs.Sizes.{quad_held}
use Rattle.keys.proofs.Greater.{first_greater, second_greater, key_held, key_most, key_at}
use Rattle.keys.proofs.greatest_key.Goals as goal
use Rattle.keys.proofs.greatest_key.Goals.{then-g-x, else-g-x}

pub loop-z-init : goal.loop-z-init
unfolding total
loop-z-init c = (refl, omega arith, refl)

pub key_of-x-requires : goal.key_of-x-requires
key_of-x-requires c =
    let h = c.requires.each c.loop-z.z-index (omega arith) in
    (rw (quad_held h) h, omega (arith, c.requires.few))

pub loop-z-preserved : goal.loop-z-preserved
loop-z-preserved c =
    let l = c.loop-z in
    let x = of_z w32 c.key_of-x.result in
    let f = key_at c.args.quads.now in
    let h = c.requires.each l.z-index (omega arith) in
    let k : l.k < 1023 = omega (arith, c.requires.few) in
    let z = at c.args.quads.now l.z-index in
    let held : x ≡ key_of z l.k = key_held h k c.key_of-x.ensures in
    let is : x ≡ f l.z-index = held ∙ ap (key_of z) l.invariant.0 in
    let small : x ≤ 132095 = rw held (key_most h k) in
    let before : l.g-bits ≡ of_z w32 (to_z w32 l.g-bits) = sym (of_z-to_z l.auto.g) in
    let more : greatest_below (l.z-index + 1) f ≡ max l.g-bits x = greatest_more f l.z-index ∙ ap₂ max (sym (before ∙ l.invariant.2)) (sym is) in
    let now : of_z w32 (to_z w32 c.if-g-x.g-bits) ≡ max l.g-bits x = elim c.if-g-x.branch [
      | then-g-x w ↦ ap (of_z w32) (w.g-is ∙ as_it_is {z = c.key_of-x.result} c.key_of-x.type_inv) ∙ second_greater l.g-bits x (omega arith) (omega arith) w.if-g-x.true
      | else-g-x w ↦ ap (of_z w32) w.g-is ∙ sym before ∙ first_greater l.g-bits x (omega arith) (omega arith) w.if-g-x.false
    ] in
    (omega arith, omega (arith, now, small, before), now ∙ sym more)

pub returns : goal.returns
unfolding greatest_key
returns c =
    let l = c.loop-z in
    let e : l.z-index ≡ length c.args.quads.now = omega arith in
    let before : l.g-bits ≡ of_z w32 (to_z w32 l.g-bits) = sym (of_z-to_z l.auto.g) in
    to_z_pos w32 (omega arith)
    ∙ ap pos (before ∙ l.invariant.2 ∙ ap (λ (n : ℕ). greatest_below n (key_at c.args.quads.now)) e)

-- `keys::count_of` meets its contract. Assumes nothing.
use Prim.Native.Nat.{ℕ, ◌+◌, ◌≤◌}
use mathlib.Core.Path.{◌≡◌, refl, sym, ap, ap₂, ◌∙◌}
use native.Mathlib.Omega.{arith}
use lib.ListN.{length}
use Rattle.words.specs.Sum.{total, sum_below}
use Rattle.area.specs.Area.{at}
use Rattle.keys.specs.Keys.{count_of}
use Rattle.keys.proofs.Sizes.{quad_held}
use Rattle.words.specs.SumLaws.{sum_more}
use Rattle.keys.proofs.Hits.{hits_at, hits_most, hits_are, hits_few}
use Rattle.keys.proofs.count_of.Goals as goal

pub loop-z-init : goal.loop-z-init
unfolding total
loop-z-init c = refl

pub sizes_of-b-requires : goal.sizes_of-b-requires
sizes_of-b-requires c =
    let h = c.requires.each c.loop-z.z-index (omega arith) in
    rw (quad_held h) h

pub overflow_add-c : goal.overflow_add-c
overflow_add-c c =
    let added = hits_are c.args.g (c.requires.each c.loop-z.z-index (omega arith)) c.sizes_of-b.ensures in
    record { fits = omega (arith, added, hits_most c.args.g (at c.args.quads.now c.loop-z.z-index)) }

pub overflow_add-c-in-loop-z : goal.overflow_add-c-in-loop-z
overflow_add-c-in-loop-z c =
    let l = c.loop-z in
    let added = hits_are c.args.g (c.requires.each l.z-index (omega arith)) c.sizes_of-b.ensures in
    let xs = c.args.quads.now in
    let few : l.c ≤ 64 = omega (arith, l.invariant, hits_few xs c.args.g l.z-index, c.requires.few) in
    record { fits = omega (arith, few, added, hits_most c.args.g (at xs l.z-index)) }

pub loop-z-preserved : goal.loop-z-preserved
loop-z-preserved c =
    let l = c.loop-z in
    let added = hits_are c.args.g (c.requires.each l.z-index (omega arith)) c.sizes_of-b.ensures in
    ap₂ ◌+◌ l.invariant (ap₂ ◌+◌ c.from.ensures c.from-in-loop-z.ensures ∙ added) ∙ sym (sum_more l.z-index (hits_at c.args.quads.now c.args.g))

pub returns : goal.returns
unfolding count_of
returns c =
    let l = c.loop-z in
    let e : l.z-index ≡ length c.args.quads.now = omega arith in
    l.invariant ∙ ap (λ (n : ℕ). sum_below n (hits_at c.args.quads.now c.args.g)) e

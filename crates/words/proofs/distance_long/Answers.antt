-- `words::distance_long` meets its contract: the loop counts the places so far. Assumes nothing.
use Rattle.std.proofs.Common.{ap₂, ◌∙◌, rules, refl, length, arith, length-append}
use Rattle.std.specs.Int.Bits.{bit_xor}
use Rattle.words.specs.Sum.{total}
use Rattle.words.specs.SumLaws.{sum_more}
use Rattle.words.specs.Xor.{xor_bits}
use Rattle.words.proofs.Chains.{next_of}
use Rattle.words.proofs.distance_long.Goals as goal

pub loop-x-init : goal.loop-x-init
unfolding total
loop-x-init c = (search rules, search rules, omega arith, refl)

pub overflow_add-d : goal.overflow_add-d
overflow_add-d c =
    let i = length c.loop-x.yielded in
    let x = next_of 0 c.args.u.now i c.loop-x.invariant.0 c.in-Some.ensures.steps.0 in
    let y = next_of 0 c.args.v.now i c.loop-x.invariant.1 c.in-Some.ensures.steps.1 in
    let added = c.from-d.ensures ∙ ap₂ bit_xor x.item y.item ∙ xor_bits _ _ (c.requires.2 i) (c.requires.3 i) in
    record { fits = omega (arith, added, x.within, c.loop-x.invariant.2, c.requires.0) }

pub loop-x-preserved : goal.loop-x-preserved
loop-x-preserved c =
    let i = length c.loop-x.yielded in
    let x = next_of 0 c.args.u.now i c.loop-x.invariant.0 c.in-Some.ensures.steps.0 in
    let y = next_of 0 c.args.v.now i c.loop-x.invariant.1 c.in-Some.ensures.steps.1 in
    let added = c.from-d.ensures ∙ ap₂ bit_xor x.item y.item ∙ xor_bits _ _ (c.requires.2 i) (c.requires.3 i) in
    rw length-append (x.left_is, y.left_is, omega (arith, added), rw sum_more (omega (arith, added)))

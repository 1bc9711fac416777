-- `parities::transform` meets its contract: each level transforms blocks of twice the size. Assumes nothing.
use native.Mathlib.Omega.{arith}
use Rattle.words.specs.ButterflyLaws.{halved-zero, halved_at}
use Rattle.words.specs.Levels.{whole_blocks, transformed_blocks, transformed_length, transformed_all, next_level, level_done}
use Rattle.parities.specs.Parities.{number_parities}
use Rattle.parities.proofs.transform.Goals as goal

pub returns-then-m-eq0 : goal.returns-then-m-eq0
returns-then-m-eq0 c =
    halved_at number_parities _ c.if-m-eq0.true (halved-zero number_parities _)

pub two-requires : goal.two-requires
two-requires c =
    rw c.if-m-eq1.true at c.requires

pub returns-then-m-eq1 : goal.returns-then-m-eq1
returns-then-m-eq1 c =
    halved_at number_parities _ c.if-m-eq1.true c.two.ensures

pub fours-requires : goal.fours-requires
fours-requires c =
    whole_blocks number_parities c.requires 2 2 (omega arith) (omega arith)

pub loop-h-init : goal.loop-h-init
loop-h-init c = transformed_blocks number_parities c.requires 2 (omega arith) c.fours.ensures

pub level-requires : goal.level-requires
level-requires c = next_level number_parities c.requires c.loop-h.invariant (omega arith)

pub overflow_add-h : goal.overflow_add-h
overflow_add-h c =
    let e = c.requires in
    omega (arith, (next_level number_parities e c.loop-h.invariant (omega arith)).fits, transformed_length number_parities e c.loop-h.invariant, e.size, c.well_formed.0.0)

pub loop-h-smaller : goal.loop-h-smaller
loop-h-smaller c =
    omega (arith, (next_level number_parities c.requires c.loop-h.invariant (omega arith)).some, transformed_length number_parities c.requires c.loop-h.invariant)

pub loop-h-preserved : goal.loop-h-preserved
loop-h-preserved c = level_done number_parities c.requires c.loop-h.invariant (omega arith) c.level.ensures

pub shape_of-a : goal.shape_of-a
shape_of-a c = omega (arith, transformed_length number_parities c.requires c.loop-h.invariant, c.requires.size)

pub returns : goal.returns
returns c = transformed_all number_parities c.requires c.loop-h.invariant (omega arith)

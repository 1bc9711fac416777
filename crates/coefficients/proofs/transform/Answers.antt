-- `coefficients::transform` meets its contract: each level transforms blocks of twice the size. Assumes nothing.
use mathlib.Core.Path.{◌∙◌}
use native.Mathlib.Omega.{arith}
use Rattle.words.specs.ButterflyLaws.{halved-zero, halved_at}
use Rattle.words.specs.Levels.{whole_blocks, transformed_blocks, transformed_length, transformed_all, next_level, level_done}
use Rattle.coefficients.specs.TransformLaws.{parities, word_entries, halved-coefficient}
use Rattle.coefficients.proofs.transform.Goals as goal

pub returns-then-m-eq0 : goal.returns-then-m-eq0
returns-then-m-eq0 c =
    halved_at parities _ c.if-m-eq0.true (halved-zero parities _) ∙ halved-coefficient _ _ c.requires.0

pub two-requires : goal.two-requires
two-requires c =
    rw c.if-m-eq1.true at (word_entries c.requires.0)

pub returns-then-m-eq1 : goal.returns-then-m-eq1
returns-then-m-eq1 c =
    halved_at parities _ c.if-m-eq1.true c.two.ensures
    ∙ halved-coefficient _ _ c.requires.0

pub four-requires : goal.four-requires
four-requires c =
    rw c.if-m-eq2.true at (word_entries c.requires.0)

pub returns-then-m-eq2 : goal.returns-then-m-eq2
returns-then-m-eq2 c =
    halved_at parities _ c.if-m-eq2.true c.four.ensures
    ∙ halved-coefficient _ _ c.requires.0

pub eights-requires : goal.eights-requires
eights-requires c =
    whole_blocks parities (word_entries c.requires.0) 3 3 (omega arith) (omega arith)

pub loop-h-init : goal.loop-h-init
loop-h-init c = transformed_blocks parities (word_entries c.requires.0) 3 (omega arith) c.eights.ensures

pub level-requires : goal.level-requires
level-requires c = next_level parities (word_entries c.requires.0) c.loop-h.invariant (omega arith)

pub overflow_add-h : goal.overflow_add-h
overflow_add-h c =
    let e = word_entries c.requires.0 in
    omega (arith, (next_level parities e c.loop-h.invariant (omega arith)).fits, transformed_length parities e c.loop-h.invariant, e.size, c.well_formed.0.0)

pub loop-h-smaller : goal.loop-h-smaller
loop-h-smaller c =
    let e = word_entries c.requires.0 in
    omega (arith, (next_level parities e c.loop-h.invariant (omega arith)).some, transformed_length parities e c.loop-h.invariant)

pub loop-h-preserved : goal.loop-h-preserved
loop-h-preserved c = level_done parities (word_entries c.requires.0) c.loop-h.invariant (omega arith) c.level.ensures

pub shape_of-s : goal.shape_of-s
shape_of-s c =
    let e = word_entries c.requires.0 in
    omega (arith, transformed_length parities e c.loop-h.invariant, e.size)

pub returns : goal.returns
returns c =
    transformed_all parities (word_entries c.requires.0) c.loop-h.invariant (omega arith) ∙ halved-coefficient _ _ c.requires.0

-- `correlations::correlate` meets its contract: the blocks of 4, then the levels. Assumes nothing.
use mathlib.Core.Path.{◌∙◌}
use native.Mathlib.Omega.{arith}
use Rattle.words.specs.ButterflyLaws.{halved-zero, halved_at}
use Rattle.words.specs.Levels.{whole_blocks}
use Rattle.correlations.specs.Begun.{blockwise_all, end_at, fours_begun}
use Rattle.hadamard.specs.Transform.{sums, summable_entries, halved-correlation}
use Rattle.correlations.proofs.correlate.Goals as goal

-- ---- the needs
pub returns-then-m-eq0 : goal.returns-then-m-eq0
returns-then-m-eq0 c =
    halved_at sums _ c.if-m-eq0.true (halved-zero sums _) ∙ halved-correlation _ _ c.requires.size

pub two-requires : goal.two-requires
two-requires c =
    rw c.if-m-eq1.true at (summable_entries c.requires)

pub returns-then-m-eq1 : goal.returns-then-m-eq1
returns-then-m-eq1 c =
    halved_at sums _ c.if-m-eq1.true c.two.ensures
    ∙ halved-correlation _ _ c.requires.size

pub eight-requires : goal.eight-requires
eight-requires c =
    rw c.if-m-eq3.true at (summable_entries c.requires)

pub returns-then-m-eq3 : goal.returns-then-m-eq3
returns-then-m-eq3 c =
    halved_at sums _ c.if-m-eq3.true c.eight.ensures
    ∙ halved-correlation _ _ c.requires.size

pub fours-requires : goal.fours-requires
fours-requires c =
    whole_blocks sums (summable_entries c.requires) 2 2 (omega arith) (omega arith)

pub levels_by_two-requires : goal.levels_by_two-requires
levels_by_two-requires c =
    (record { exponent = _; from = _; done = fours_begun c.requires (omega arith) c.fours.ensures }, end_at 2 _ (c.fours.auto.a ∙ c.requires.size) (omega arith) (omega arith))

pub shape_of-a : goal.shape_of-a
shape_of-a c =
    c.levels_by_two.auto.a ∙ c.fours.auto.a

pub returns : goal.returns
returns c =
    blockwise_all (c.levels_by_two.ensures _ _ (fours_begun c.requires (omega arith) c.fours.ensures)) (omega arith)

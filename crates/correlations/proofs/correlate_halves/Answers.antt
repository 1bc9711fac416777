-- `correlations::correlate_halves` meets its contract: the levels of the whole but the last. Assumes nothing.
use Prim.Native.Nat.{ℕ, suc, ◌<◌}
use mathlib.Core.List.{List}
use mathlib.Core.Path.{refl}
use native.Mathlib.Omega.{arith}
use lib.IntN.{ℤ}
use lib.ListN.{length}
use lib.Pow.{pow_pos}
use Rattle.words.specs.Levels.{level_done, next_level, transformed_blocks, whole_blocks}
use Rattle.hadamard.specs.Summable.{Summable}
use Rattle.hadamard.specs.Transform.{sums, summable_entries}
use Rattle.correlations.specs.Begun.{fours_begun}
use Rattle.correlations.specs.HalfLaws.{blocks_of_one, half, half_end, halves_done}
use Rattle.correlations.proofs.correlate_halves.Goals as goal

-- ---- halves of 2 and of 8
more : {k : ℕ} {x : List ℤ} → Summable (suc k) x → 1 < length x
more {k} s = omega (arith, s.size, pow_pos k)

pub returns-then-k-eq0 : goal.returns-then-k-eq0
returns-then-k-eq0 c =
    halves_done (blocks_of_one c.requires) (rw c.if-k-eq0.true refl)

pub level-requires : goal.level-requires
level-requires c =
    let s = c.requires in
    next_level sums (summable_entries s) (blocks_of_one s).transformed (more s)

pub returns-then-k-eq1 : goal.returns-then-k-eq1
returns-then-k-eq1 c =
    let s = c.requires in
    halves_done
    (record { summable = s; transformed = level_done sums (summable_entries s) (blocks_of_one s).transformed (more s) c.level.ensures })
    (rw c.if-k-eq1.true refl)

pub eights-requires : goal.eights-requires
eights-requires c =
    whole_blocks sums (summable_entries c.requires) 3 3 (omega arith) (omega arith)

pub returns-then-k-eq3 : goal.returns-then-k-eq3
returns-then-k-eq3 c =
    let s = c.requires in
    halves_done
    (record { summable = s; transformed = transformed_blocks sums (summable_entries s) 3 (omega arith) c.eights.ensures })
    (rw c.if-k-eq3.true refl)

-- ---- from blocks of 4 on
pub fours-requires : goal.fours-requires
fours-requires c =
    whole_blocks sums (summable_entries c.requires) 2 2 (omega arith) (omega arith)

pub levels_by_two-requires : goal.levels_by_two-requires
levels_by_two-requires c =
    (record { exponent = _; from = _; done = fours_begun c.requires (omega arith) c.fours.ensures }, half_end c.requires 2 c.fours.auto.a (omega arith))

pub returns : goal.returns
returns c =
    halves_done (c.levels_by_two.ensures _ _ (fours_begun c.requires (omega arith) c.fours.ensures)) (half c.requires)

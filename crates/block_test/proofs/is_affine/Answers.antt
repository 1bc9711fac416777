-- `block_test::is_affine` meets its contract. Assumes nothing.
use mathlib.Core.Path.{refl, sym, ◌∙◌}
use native.Mathlib.Omega.{arith}
use lib.Pow.{pow_mono}
use Rattle.code.proofs.FirstOrderLaws.{levels_fail, levels_test_lem}
use Rattle.block_test.proofs.is_affine.Goals as goal

pub first_levels-requires : goal.first_levels-requires
first_levels-requires c =
    let p = c.requires in
    (omega (arith, p.2.size, pow_mono p.0), record { each = p.2.bits })

pub returns-then-not-first_levels : goal.returns-then-not-first_levels
returns-then-not-first_levels c =
    let p = c.requires in
    sym (levels_fail _ _ _ p.0 (sym c.first_levels.ensures ∙ c.if-not-first_levels.true)) ∙ levels_test_lem _ _ _ p.2 (λ q l. refl)

pub levels_from-requires : goal.levels_from-requires
levels_from-requires c =
    (sym c.first_levels.ensures ∙ c.if-not-first_levels.false, omega arith, omega arith, omega arith, c.requires.2)

pub returns : goal.returns
returns c =
    c.levels_from.ensures ∙ levels_test_lem _ _ _ c.requires.2 (λ q l. refl)

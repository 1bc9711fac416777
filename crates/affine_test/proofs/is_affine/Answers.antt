-- `affine_test::is_affine` meets its contract: the levels are the codeword test of order 1. Assumes nothing.
use Prim.Native.Nat.{◌^◌}
use mathlib.Core.Path.{◌≡◌, refl, sym, ◌∙◌}
use native.Mathlib.Omega.{arith}
use lib.Pow.{pow_mono}
use Rattle.area.specs.Area.{size_at, word_of}
use Rattle.area.proofs.AreaLaws.{bit-word_of, word_of_word}
use Rattle.code.specs.Code.{codeword_test}
use Rattle.code.specs.FirstOrder.{levels_test}
use Rattle.code.proofs.FirstOrderLaws.{levels_fail, levels_test_lem}
use Rattle.affine_test.specs.MarkLaws.{bits_marked, marked_fewer}
use Rattle.affine_test.proofs.is_affine.Goals as goal

pub levels_from-requires : goal.levels_from-requires
unfolding levels_test
levels_from-requires c =
    record { first_le_m = (omega arith, c.requires.0, bits_marked c.requires.1); area_value = refl }

pub returns-then-m-lt3 : goal.returns-then-m-lt3
returns-then-m-lt3 c =
    let tested : let a = c.args in levels_test a.m (size_at a.area.now) ≡ codeword_test a.m 1 (word_of (2 ^ a.m) a.area.now) = let m = c.args.m in
    let xs = c.args.area.now in
    levels_test_lem m (word_of (2 ^ m) xs) (size_at xs) (word_of_word c.requires.1) (λ p l. sym (bit-word_of (2 ^ m) xs p l)) in
    c.levels_from.ensures ∙ tested

pub first_levels-requires : goal.first_levels-requires
first_levels-requires c =
    marked_fewer (pow_mono {i = 3} (omega arith)) (bits_marked c.requires.1)

pub returns-then-not-first_levels : goal.returns-then-not-first_levels
returns-then-not-first_levels c =
    let tested : let a = c.args in levels_test a.m (size_at a.area.now) ≡ codeword_test a.m 1 (word_of (2 ^ a.m) a.area.now) = let m = c.args.m in
    let xs = c.args.area.now in
    levels_test_lem m (word_of (2 ^ m) xs) (size_at xs) (word_of_word c.requires.1) (λ p l. sym (bit-word_of (2 ^ m) xs p l)) in
    let failed = sym c.first_levels.ensures ∙ c.if-not-first_levels.true in
    sym (levels_fail _ c.args.m 3 (omega arith) failed) ∙ tested

pub levels_from-requires-2 : goal.levels_from-requires-2
levels_from-requires-2 c =
    record { first_le_m = (omega arith, c.requires.0, bits_marked c.requires.1); area_value = sym c.first_levels.ensures ∙ c.if-not-first_levels.false }

pub returns : goal.returns
returns c =
    let tested : let a = c.args in levels_test a.m (size_at a.area.now) ≡ codeword_test a.m 1 (word_of (2 ^ a.m) a.area.now) = let m = c.args.m in
    let xs = c.args.area.now in
    levels_test_lem m (word_of (2 ^ m) xs) (size_at xs) (word_of_word c.requires.1) (λ p l. sym (bit-word_of (2 ^ m) xs p l)) in
    c.levels_from-2.ensures ∙ tested

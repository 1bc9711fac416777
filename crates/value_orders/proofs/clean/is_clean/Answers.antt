-- `value_orders::clean::is_clean` meets its contract: the levels are the codeword test of order 1. Assumes nothing.
use Prim.Native.Nat.{ℕ, suc, ◌-◌}
use mathlib.Core.Bool.{true}
use mathlib.Core.Path.{◌≡◌, refl, sym, ap, ◌∙◌, subst}
use native.Mathlib.Omega.{arith}
use lib.Pow.{pow_mono, pow_pos}
use Rattle.words.specs.Sum.{all_below}
use Rattle.code.specs.FirstOrder.{levels_test}
use Rattle.code.proofs.FirstOrderLaws.{levels_fail}
use Rattle.confidences.specs.Values.{Values}
use Rattle.value_orders.specs.Leaves.{clean_test, is_some, sign_at}
use Rattle.value_orders.specs.CleanLaws.{clean_not, clean_is, clean_last, values_fewer, values_marked}
use Rattle.value_orders.proofs.clean.is_clean.Goals as goal

pub levels_from-requires : goal.levels_from-requires
unfolding levels_test
levels_from-requires c =
    record { first_le_m = (omega arith, c.requires.0, values_marked c.requires.1); area_value = refl }

pub returns-then-not-levels_from : goal.returns-then-not-levels_from
returns-then-not-levels_from c =
    let a = c.args in
    clean_not a.m a.part.now (sym c.levels_from.ensures ∙ c.if-not-levels_from.true)

pub none_zero-requires : goal.none_zero-requires
none_zero-requires c =
    subst (λ (n : ℕ). Values n c.args.part.now) (sym c.size.ensures) c.requires.1

pub returns-then-m-lt3 : goal.returns-then-m-lt3
returns-then-m-lt3 c =
    let a = c.args in
    c.none_zero.ensures ∙ ap (λ (k : ℕ). all_below k (is_some a.part.now)) c.size.ensures
    ∙ clean_is a.m a.part.now (sym c.levels_from.ensures ∙ c.if-not-levels_from.false)

pub first_levels-requires : goal.first_levels-requires
first_levels-requires c =
    values_marked (values_fewer (pow_mono {i = 3} (omega arith)) c.requires.1)

pub returns-then-not-first_levels : goal.returns-then-not-first_levels
returns-then-not-first_levels c =
    let a = c.args in
    let failed = sym c.first_levels.ensures ∙ c.if-not-first_levels.true in
    clean_not a.m a.part.now (levels_fail _ a.m 3 (omega arith) failed)

pub none_zero-requires-then-m-eq3 : goal.none_zero-requires-then-m-eq3
none_zero-requires-then-m-eq3 c =
    rw c.if-m-eq3.true at c.requires.1

pub returns-then-m-eq3 : goal.returns-then-m-eq3
returns-then-m-eq3 c =
    let passed : levels_test 3 (sign_at c.args.part.now) ≡ true = sym c.first_levels.ensures ∙ c.if-not-first_levels.false in
    let a = c.args in
    c.none_zero-then-m-eq3.ensures
    ∙ subst (λ (m : ℕ). all_below 8 (is_some a.part.now) ≡ clean_test m a.part.now) (sym c.if-m-eq3.true)
    (clean_is 3 a.part.now (passed))

pub levels_from-requires-2 : goal.levels_from-requires-2
levels_from-requires-2 c =
    let passed : levels_test 3 (sign_at c.args.part.now) ≡ true = sym c.first_levels.ensures ∙ c.if-not-first_levels.false in
    record { first_le_m = (omega arith, omega (arith, c.requires.0), values_marked (values_fewer (pow_mono (omega arith)) c.requires.1)); area_value = passed }

pub returns-then-not-levels_from-2 : goal.returns-then-not-levels_from-2
returns-then-not-levels_from-2 c =
    let a = c.args in
    let failed = sym c.levels_from-2.ensures ∙ c.if-not-levels_from-2.true in
    clean_not a.m a.part.now (levels_fail _ a.m (a.m - 1) (omega arith) failed)

pub last_level-requires : goal.last_level-requires
last_level-requires c =
    let e = c.size-2.ensures in
    let half = pow_mono {i = suc (c.args.m - 1)} {j = c.args.m} (omega arith) in
    (omega (arith, pow_pos (c.args.m - 1)), values_fewer (omega arith) c.requires.1)

pub returns : goal.returns
returns c =
    let a = c.args in
    c.last_level.ensures
    ∙ clean_last a.m a.part.now (a.m - 1) _ (omega arith) c.size-2.ensures (sym c.levels_from-2.ensures ∙ c.if-not-levels_from-2.false)

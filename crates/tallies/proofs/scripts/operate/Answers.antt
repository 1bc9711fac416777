-- `tallies::scripts::operate` meets its contract. Assumes nothing.
use mathlib.Core.Path.{◌∙◌}
use native.Mathlib.Omega.{arith}
use Rattle.tallies.specs.ScriptLaws.{is_whole, whole_counting, whole_named, counts, saves, returns as returns_to, drops}
use Rattle.tallies.proofs.scripts.operate.Goals as goal

pub bounds-script-at : goal.bounds-script-at
bounds-script-at c =
    omega (arith, (is_whole _ _ c.requires).fits)

pub overflow_add-at : goal.overflow_add-at
overflow_add-at c =
    omega (arith, whole_counting _ _ c.requires c.if-code-eq0.true)

pub bounds-script-at-then-code-eq0 : goal.bounds-script-at-then-code-eq0
bounds-script-at-then-code-eq0 c =
    omega (arith, whole_counting _ _ c.requires c.if-code-eq0.true)

pub returns-then-code-eq0 : goal.returns-then-code-eq0
returns-then-code-eq0 c =
    rw (c.counted-last.ensures, c.from.ensures) (counts _ _ _ c.if-code-eq0.true)

pub name_at-name-requires : goal.name_at-name-requires
name_at-name-requires c =
    omega (arith, whole_named _ _ c.requires c.if-code-eq0.false)

pub returns-in-1 : goal.returns-in-1
returns-in-1 c =
    c.save_in.ensures ∙ rw c.name_at-name.ensures (saves _ _ _ c.if-code-eq0.false (omega arith))

pub returns-in-2 : goal.returns-in-2
returns-in-2 c =
    c.return_in.ensures ∙ rw c.name_at-name.ensures (returns_to _ _ _ c.if-code-eq0.false (λ e. omega arith) (omega arith))

pub returns-in_default : goal.returns-in_default
returns-in_default c =
    c.drop_in.ensures ∙ rw c.name_at-name.ensures (drops _ _ _ c.if-code-eq0.false (λ e. omega arith) (λ e. omega arith))

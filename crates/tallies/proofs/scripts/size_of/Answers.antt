-- `tallies::scripts::size_of` meets its contract. Assumes nothing.
use native.Mathlib.Omega.{arith}
use Rattle.tallies.specs.ScriptLaws.{size_counting, size_named, size_none}
use Rattle.tallies.proofs.scripts.size_of.Goals as goal

pub returns-then-code-eq0 : goal.returns-then-code-eq0
returns-then-code-eq0 c =
    size_counting _ (omega arith)

pub returns-then-code-le3 : goal.returns-then-code-le3
returns-then-code-le3 c =
    size_named _ (λ e. omega arith) (omega arith)

pub returns : goal.returns
returns c =
    size_none _ (omega arith)

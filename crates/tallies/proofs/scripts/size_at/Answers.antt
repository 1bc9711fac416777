-- `tallies::scripts::size_at` meets its contract. Assumes nothing.
use native.Mathlib.Omega.{arith}
use Rattle.tallies.specs.ScriptLaws.{size_end, size_cut, size_whole}
use Rattle.tallies.proofs.scripts.size_at.Goals as goal

pub returns-then-at-script : goal.returns-then-at-script
returns-then-at-script c =
    size_end _ _ (omega arith)

pub returns-then-script-at : goal.returns-then-script-at
returns-then-script-at c =
    size_cut _ _ c.size_of-size.ensures (omega arith)

pub returns : goal.returns
returns c =
    size_whole _ _ c.size_of-size.ensures (omega arith)

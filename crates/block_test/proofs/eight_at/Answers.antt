-- `block_test::eight_at` meets its contract. Assumes nothing.
use Prim.Native.Nat.{ℕ, ◌+◌, ◌*◌}
use mathlib.Core.Path.{ap₂, ◌∙◌}
use Rattle.block_test.specs.BlockLaws.{eight_are}
use Rattle.block_test.proofs.eight_at.Goals as goal

pub returns : goal.returns
returns c =
    ap₂ (λ (x y : ℕ). x + 4294967296 * y) (c.from.ensures ∙ c.four_at.ensures) (c.from-2.ensures ∙ c.four_at-2.ensures) ∙ eight_are c.requires.1 c.args.b

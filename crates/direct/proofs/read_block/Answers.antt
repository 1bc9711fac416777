-- `direct::read_block` meets its contract: the reading, then the area cleared. Assumes nothing.
use Prim.Native.Nat.{ℕ}
use mathlib.Core.Path.{ap, ◌∙◌}
use lib.IntN.{pos}
use lib.ListN.{replicate}
use Rattle.direct.proofs.read_block.Goals as goal

pub returns : goal.returns
returns c =
    record { given = c.first_order-told.ensures; cleared = c.fill.ensures ∙ ap (λ (n : ℕ). replicate n (pos 0)) c.first_order-told.auto.area }

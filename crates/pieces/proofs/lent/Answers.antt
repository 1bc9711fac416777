-- `pieces::lent` meets its contract. Assumes nothing.
use Prim.Native.Nat.{ℕ, ◌*◌}
use mathlib.Core.Path.{ap}
use Rattle.pieces.proofs.lent.Goals as goal

pub returns : goal.returns
returns c =
    rw c.if-first.false (ap (λ (k : ℕ). 64 * k) c.body_length.ensures.0)

-- `keys::offs_of` meets its contract. Assumes nothing.
use native.Mathlib.Omega.{arith}
use Rattle.keys.specs.Bytes.{offs_are, offs_room}
use Rattle.keys.proofs.offs_of.Goals as goal

pub overflow_add-result : goal.overflow_add-result
overflow_add-result c =
    record { fits = omega (arith, offs_room c.args.f (omega arith)) }

pub returns : goal.returns
returns c =
    offs_are c.args.f (omega arith)

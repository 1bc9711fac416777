-- `affine::parity` meets its contract. Assumes nothing.
use Rattle.area.specs.Numbers.{byte_number}
use native.Mathlib.Omega.{arith}
use Rattle.affine.proofs.parity.Goals as goal

pub returns : goal.returns
returns c =
    byte_number _ (omega arith)

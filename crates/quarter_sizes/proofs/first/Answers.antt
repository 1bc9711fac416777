-- `quarter_sizes::first` meets its contract. Assumes nothing.
use native.Mathlib.Omega.{arith}
use Rattle.area.specs.Numbers.{byte_number}
use Rattle.quarter_sizes.proofs.first.Goals as goal

pub returns : goal.returns
returns c =
    byte_number _ (omega arith)

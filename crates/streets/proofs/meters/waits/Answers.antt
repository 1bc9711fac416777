-- `streets::meters::waits` meets its contract. Assumes nothing.
use native.Mathlib.Omega.{arith}
use Rattle.streets.specs.MeterLaws.{before_from, from_on}
use Rattle.streets.proofs.meters.waits.Goals as goal

pub returns-then-i-from : goal.returns-then-i-from
returns-then-i-from c =
    before_from _ _ _ (omega arith)

pub returns : goal.returns
returns c =
    from_on _ _ _ (omega arith)

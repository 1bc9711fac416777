-- `tables::in_limits` meets its contract. Assumes nothing.
use native.Mathlib.Omega.{arith}
use Rattle.tables.specs.Limits.{exponent_low, exponent_high, order_high, rounds_low, rounds_high, leaves_low, leaves_last}
use Rattle.tables.proofs.in_limits.Goals as goal

pub returns-then-p-lt3 : goal.returns-then-p-lt3
returns-then-p-lt3 c =
    exponent_low _ (omega arith)

pub returns-then-p-gt10 : goal.returns-then-p-gt10
returns-then-p-gt10 c =
    exponent_high _ (omega arith) (omega arith)

pub returns-then-p : goal.returns-then-p
returns-then-p c =
    order_high _ (omega arith) (omega arith) (omega arith)

pub returns-then-p-lt1 : goal.returns-then-p-lt1
returns-then-p-lt1 c =
    rounds_low _ (omega arith) (omega arith) (omega arith) (omega arith)

pub returns-then-p-gt16 : goal.returns-then-p-gt16
returns-then-p-gt16 c =
    rounds_high _ (omega arith) (omega arith) (omega arith) (omega arith) (omega arith)

pub returns-then-p-lt1-2 : goal.returns-then-p-lt1-2
returns-then-p-lt1-2 c =
    leaves_low _ (omega arith) (omega arith) (omega arith) (omega arith) (omega arith) (omega arith)

pub returns : goal.returns
returns c =
    leaves_last _ (omega arith) (omega arith) (omega arith) (omega arith) (omega arith) (omega arith)

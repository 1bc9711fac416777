-- `table_files::is_table` meets its contract. Assumes nothing.
use native.Mathlib.Omega.{arith}
use Rattle.table_files.specs.Cases.{short, first, second, third, senior, junior, none, many, long}
use Rattle.table_files.proofs.is_table.Goals as goal

pub returns-then-file-lt6 : goal.returns-then-file-lt6
returns-then-file-lt6 c =
    short _ (omega arith)

pub returns-then-file-mark : goal.returns-then-file-mark
returns-then-file-mark c =
    first _ (omega arith) (λ e. omega arith)

pub returns-then-file-mark-2 : goal.returns-then-file-mark-2
returns-then-file-mark-2 c =
    second _ (omega arith) (omega arith) (λ e. omega arith)

pub returns-then-file-mark-3 : goal.returns-then-file-mark-3
returns-then-file-mark-3 c =
    third _ (omega arith) (omega arith) (omega arith) (λ e. omega arith)

pub returns-then-file-ne0 : goal.returns-then-file-ne0
returns-then-file-ne0 c =
    senior _ (omega arith) (omega arith) (omega arith) (omega arith) (λ e. omega arith)

pub returns-then-file-ne1 : goal.returns-then-file-ne1
returns-then-file-ne1 c =
    junior _ (omega arith) (omega arith) (omega arith) (omega arith) (omega arith) (λ e. omega arith)

pub returns-then-count-lt1 : goal.returns-then-count-lt1
returns-then-count-lt1 c =
    none _ (omega arith) (omega arith) (omega arith) (omega arith) (omega arith) (omega arith) (omega arith)

pub returns-then-count-gt32 : goal.returns-then-count-gt32
returns-then-count-gt32 c =
    many _ (omega arith) (omega arith) (omega arith) (omega arith) (omega arith) (omega arith) (omega arith) (omega arith)

pub returns : goal.returns
returns c =
    rw c.from-count.ensures (long _ (omega arith) (omega arith) (omega arith) (omega arith) (omega arith) (omega arith) (omega arith) (omega arith))

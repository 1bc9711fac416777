-- `array_lines::columns::decode_column` meets its contract. Assumes nothing.
use mathlib.Core.Path.{refl}
use native.Mathlib.Omega.{arith}
use Rattle.array_lines.specs.ColumnLaws.{column_inside, column_kept, column_runs, column_taken, column_word, put_asks}
use Rattle.array_lines.specs.LineLaws.{line_kept, line_leaves, line_taken}
use Rattle.array_lines.proofs.columns.decode_column.Goals as goal

pub gather-requires : goal.gather-requires
gather-requires c =
    let p = c.requires in
    column_inside p _ p.taken

pub run-answer-requires : goal.run-answer-requires
run-answer-requires c =
    column_runs c.requires _ c.gather.ensures refl refl

pub put-requires : goal.put-requires
put-requires c =
    let p = c.requires in
    let runs = column_runs p _ c.gather.ensures refl refl in
    put_asks p _ c.gather.ensures (line_taken runs c.run-answer.ensures c.in-Ok.is) c.run-answer.ensures.output (omega arith)

pub test-requires : goal.test-requires
test-requires c =
    let p = c.requires in
    (omega (arith, p.reads.side.most), p.reads.side.order, column_word p _ c.gather.ensures, omega (arith, p.space))

pub returns-in-Ok : goal.returns-in-Ok
returns-in-Ok c =
    let p = c.requires in
    let runs = column_runs p _ c.gather.ensures refl refl in
    let is = c.in-Ok.is in
    column_taken p _ c.gather.ensures (line_taken runs c.run-answer.ensures is) c.run-answer.ensures.output (omega arith) _ (line_leaves runs c.run-answer.ensures is)
    c.put.ensures

pub returns-in-Err : goal.returns-in-Err
returns-in-Err c =
    let p = c.requires in
    let runs = column_runs p _ c.gather.ensures refl refl in
    let is = c.in-Err.is in
    column_kept p _ c.gather.ensures (line_kept runs c.run-answer.ensures is) (line_leaves runs c.run-answer.ensures is) c.test.ensures

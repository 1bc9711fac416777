-- `array_lines::rows::decode_row` meets its contract. Assumes nothing.
use Rattle.array_lines.specs.LineLaws.{line_leaves}
use Rattle.array_lines.proofs.rows.decode_row.Goals as goal

pub returns-in-Ok : goal.returns-in-Ok
returns-in-Ok c =
    record { left = c.run-answer.ensures.output; leaves = line_leaves c.requires c.run-answer.ensures c.in-Ok.is }

pub returns-in-Err : goal.returns-in-Err
returns-in-Err c =
    record { left = c.run-answer.ensures.output; leaves = line_leaves c.requires c.run-answer.ensures c.in-Err.is }

-- `array_lines::columns::decode_each` meets its contract: the columns read stand as they are left, the others as they were. Assumes nothing.
use Rattle.std.proofs.Common.{◌≤◌, arith}
use Rattle.arrays.proofs.Lines.{leaves_most}
use Rattle.array_lines.specs.ColumnsLaws.{column_ready, columns_all, columns_more, columns_none, leaves_few}
use Rattle.array_lines.proofs.columns.decode_each.Goals as goal

pub size-a-requires : goal.size-a-requires
size-a-requires c =
    omega (arith, c.requires.few)

pub loop-j-init : goal.loop-j-init
loop-j-init c =
    columns_none c.requires

pub decode_column-c-requires : goal.decode_column-c-requires
decode_column-c-requires c =
    let l = c.loop-j in
    column_ready c.requires l.invariant c.size-a.ensures (omega arith) _ _ _ l.auto.line l.auto.left l.auto.area

pub overflow_add-sum : goal.overflow_add-sum
overflow_add-sum c =
    let one : c.decode_column-c.result.leaves ≤ c.args.code.leaves = rw c.decode_column-c.ensures.count (leaves_most _ _ _ _ _) in
    record { fits = omega (arith, leaves_few c.requires c.loop-j.invariant (omega arith), c.requires.reads.limits.leaves_most) }

pub loop-j-preserved : goal.loop-j-preserved
loop-j-preserved c =
    columns_more c.requires c.loop-j.invariant c.size-a.ensures (omega arith) c.decode_column-c.ensures

pub returns : goal.returns
returns c =
    columns_all c.requires c.loop-j.invariant (omega arith)

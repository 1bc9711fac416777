-- `array_lines::rows::decode_rows` meets its contract: the rows read stand as they are left, the others as received. Assumes nothing.
use Rattle.std.proofs.Common.{◌≤◌, arith, ap, length}
use Rattle.arrays.proofs.Lines.{leaves_most}
use Rattle.array_lines.specs.RowLaws.{row_runs, row_within, rows_array, rows_leaves, rows_more, rows_none, sum_few}
use Rattle.array_lines.proofs.rows.decode_rows.Goals as goal

pub size-n-requires : goal.size-n-requires
size-n-requires c =
    omega (arith, c.requires.reads.side.most)

pub size-i-end-requires : goal.size-i-end-requires
size-i-end-requires c =
    omega (arith, c.requires.few)

pub loop-i-init : goal.loop-i-init
loop-i-init c =
    rows_none c.requires

pub overflow_mul-a : goal.overflow_mul-a
overflow_mul-a c =
    record { fits = omega (arith, row_within _ _ c.requires.input c.size-n.ensures c.loop-i.i (omega arith)) }

pub overflow_add-e : goal.overflow_add-e
overflow_add-e c =
    record { fits = omega (arith, row_within _ _ c.requires.input c.size-n.ensures c.loop-i.i (omega arith)) }

pub slice_bounds-decode_row-end : goal.slice_bounds-decode_row-end
slice_bounds-decode_row-end c =
    row_within _ _ c.requires.input c.size-n.ensures c.loop-i.i (omega arith)

pub slice_bounds-decode_row-end-in-loop-i : goal.slice_bounds-decode_row-end-in-loop-i
slice_bounds-decode_row-end-in-loop-i c =
    omega (arith, ap length c.requires.copied, row_within _ _ c.requires.input c.size-n.ensures c.loop-i.i (omega arith))

pub decode_row-sum-requires : goal.decode_row-sum-requires
decode_row-sum-requires c =
    row_runs c.requires c.loop-i.invariant c.size-n.ensures (omega arith) c.loop-i.auto.area

pub overflow_add-sum : goal.overflow_add-sum
overflow_add-sum c =
    let one : c.decode_row-sum.result ≤ c.args.leaves = rw c.decode_row-sum.ensures.leaves (leaves_most _ _ _ _ _) in
    record { fits = omega (arith, sum_few c.requires c.loop-i.invariant (omega arith), c.requires.reads.limits.leaves_most) }

pub loop-i-preserved : goal.loop-i-preserved
loop-i-preserved c =
    rows_more c.requires c.loop-i.invariant c.size-n.ensures (omega arith) c.decode_row-sum.ensures.left c.decode_row-sum.ensures.leaves

pub returns : goal.returns
returns c =
    let l = c.loop-i.invariant in
    record { array = rows_array c.requires l (omega arith); leaves = rows_leaves c.requires l (omega arith) }

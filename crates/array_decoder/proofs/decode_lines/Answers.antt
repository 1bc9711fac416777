-- `array_decoder::decode_lines` meets its contract. Assumes nothing.
use Prim.Native.Nat.{◌+◌, ◌-◌, ◌*◌, ◌≤◌}
use mathlib.Core.Path.{◌≡◌, refl, ◌∙◌}
use native.Mathlib.Omega.{arith}
use lib.ListN.{length}
use lib.IntN.{pos}
use lib.Pow.{pow_mono}
use borrow.Rule.Slice.PartMut.{put_mid}
use Rattle.words.specs.Parts.{back_length, part_length}
use Rattle.array_decoder.specs.ReadLaws.{column_lent, columns_ask, leaves_fit, lines_read, row_lent, rows_ask}
use Rattle.array_decoder.proofs.decode_lines.Goals as goal

pub size-a-requires : goal.size-a-requires
size-a-requires c =
    omega (arith, c.requires.passed.across.most)

pub overflow_mul-a : goal.overflow_mul-a
overflow_mul-a c =
    record { fits = omega (arith, c.size-a.ensures, pow_mono {j = 6} c.requires.passed.across.most) }

pub size-b-requires : goal.size-b-requires
size-b-requires c =
    omega (arith, c.requires.passed.down.most)

pub overflow_mul-b : goal.overflow_mul-b
overflow_mul-b c =
    record { fits = omega (arith, c.size-b.ensures, pow_mono {j = 6} c.requires.passed.down.most) }

pub slice_bounds-decode_rows-end : goal.slice_bounds-decode_rows-end
slice_bounds-decode_rows-end c =
    omega (arith, row_lent c.requires, c.size-a.ensures)

pub decode_rows-rows-requires : goal.decode_rows-rows-requires
decode_rows-rows-requires c =
    rows_ask c.requires _ refl c.size-a.ensures

pub slice_bounds-decode_columns-end : goal.slice_bounds-decode_columns-end
slice_bounds-decode_columns-end c =
    let whole : length (put_mid 0 (8 * c.size-a.result - 0) c.args.area.now c.decode_rows-rows.new.area)
    ≡ length c.args.area.now = let k = 8 * c.size-a.result - 0 in
    let area = c.args.area.now in
    let fits : 0 + k ≤ length area = omega (arith, row_lent c.requires, c.size-a.ensures) in
    back_length (pos 0) 0 k area fits c.decode_rows-rows.new.area (c.decode_rows-rows.auto.area ∙ part_length (pos 0) 0 k area fits) in
    omega (arith, whole, column_lent c.requires, c.size-b.ensures)

pub decode_columns-columns-requires : goal.decode_columns-columns-requires
decode_columns-columns-requires c =
    let whole : length (put_mid 0 (8 * c.size-a.result - 0) c.args.area.now c.decode_rows-rows.new.area)
    ≡ length c.args.area.now = let k = 8 * c.size-a.result - 0 in
    let area = c.args.area.now in
    let fits : 0 + k ≤ length area = omega (arith, row_lent c.requires, c.size-a.ensures) in
    back_length (pos 0) 0 k area fits c.decode_rows-rows.new.area (c.decode_rows-rows.auto.area ∙ part_length (pos 0) 0 k area fits) in
    columns_ask c.requires c.decode_rows-rows.ensures.array _ (whole) c.size-b.ensures

pub overflow_add-result : goal.overflow_add-result
overflow_add-result c =
    record { fits = omega (arith, leaves_fit c.requires c.decode_rows-rows.ensures.array c.decode_columns-columns.ensures c.decode_rows-rows.ensures.leaves) }

pub returns : goal.returns
returns c =
    lines_read c.requires c.decode_rows-rows.ensures.array c.decode_columns-columns.ensures c.decode_rows-rows.ensures.leaves

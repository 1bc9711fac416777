-- `array_lines::rows::are_codewords` meets its contract. Assumes nothing.
use Rattle.std.proofs.Common.{◌+◌, ◌-◌, ◌≤◌, refl, ◌∙◌, arith, length}
use Rattle.std.proofs.Math.Pow.{pow_mono}
use Rattle.words.specs.Parts.{back_length, front_length, part_length}
use Rattle.array_lines.specs.RowLaws.{part_word, row_within, tested_all, tested_fails, tested_more, tested_none}
use Rattle.array_lines.proofs.rows.are_codewords.Goals as goal

pub size-n-requires : goal.size-n-requires
size-n-requires c =
    omega (arith, c.requires.short)

pub size-i-end-requires : goal.size-i-end-requires
size-i-end-requires c =
    omega (arith, c.requires.few)

pub loop-i-init : goal.loop-i-init
loop-i-init c =
    (refl, tested_none c.requires)

pub overflow_mul-a : goal.overflow_mul-a
overflow_mul-a c =
    record { fits = omega (arith, row_within _ _ c.requires.input c.size-n.ensures c.loop-i.i (omega arith)) }

pub overflow_add-e : goal.overflow_add-e
overflow_add-e c =
    record { fits = omega (arith, row_within _ _ c.requires.input c.size-n.ensures c.loop-i.i (omega arith)) }

pub slice_bounds-has_order-end : goal.slice_bounds-has_order-end
slice_bounds-has_order-end c =
    row_within _ _ c.requires.input c.size-n.ensures c.loop-i.i (omega arith)

pub slice_bounds-t-end : goal.slice_bounds-t-end
slice_bounds-t-end c =
    omega (arith, c.size-n.ensures, c.loop-i.invariant.0, pow_mono {j = 6} c.requires.short)

pub has_order-requires : goal.has_order-requires
has_order-requires c =
    let p = c.requires in
    let size = c.size-n.ensures in
    (omega (arith, p.short), p.order, part_word _ _ p.input size _ (omega arith), front_length _ _ (omega (arith, size, c.loop-i.invariant.0, pow_mono {j = 6} p.short)) ∙ size)

pub returns-then-not-has_order : goal.returns-then-not-has_order
returns-then-not-has_order c =
    tested_fails c.requires c.size-n.ensures _ (omega arith) c.has_order.ensures c.if-not-has_order.true

pub loop-i-preserved : goal.loop-i-preserved
loop-i-preserved c =
    let l = c.loop-i in
    let p = c.requires in
    let h = c.has_order in
    let n = c.size-n.result in
    let fits : 0 + (n - 0) ≤ length l.t = omega (arith, c.size-n.ensures, l.invariant.0, pow_mono {j = 6} p.short) in (
      back_length 0 0 (n - 0) l.t fits h.new.t (h.auto.t ∙ part_length 0 0 (n - 0) l.t fits) ∙ l.invariant.0,
      tested_more p c.size-n.ensures _ (omega arith) h.ensures c.if-not-has_order.false l.invariant.1,
    )

pub returns : goal.returns
returns c =
    tested_all c.requires (omega arith) c.loop-i.invariant.1

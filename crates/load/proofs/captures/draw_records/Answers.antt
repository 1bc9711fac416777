-- `load::captures::draw_records` meets its contract: the loop writes a record a turn. Assumes nothing.
use Prim.Native.Nat.{◌+◌}
use Rattle.std.proofs.Common.{ap, ◌∙◌, ℕ}
use Rattle.words.proofs.WordLaws.{bool_byte_lem}
use native.Mathlib.Omega.{arith}
use lib.Dec.{ltb}
use Rattle.load.specs.CaptureLaws.{record_part, record_room, recorded_all, recorded_more, recorded_none, short_fits}
use Rattle.load.proofs.captures.draw_records.Goals as goal

pub loop-i-init : goal.loop-i-init
loop-i-init c =
    recorded_none _ _ _ _ _ _

pub overflow_mul-at : goal.overflow_mul-at
overflow_mul-at c =
    omega (arith, record_room c.loop-i.invariant c.requires.2 c.requires.1 (omega arith))

pub overflow_add-at : goal.overflow_add-at
overflow_add-at c =
    omega (arith, record_room c.loop-i.invariant c.requires.2 c.requires.1 (omega arith))

pub slice_bounds-draw_record-end : goal.slice_bounds-draw_record-end
slice_bounds-draw_record-end c =
    omega (arith, record_room c.loop-i.invariant c.requires.2 c.requires.1 (omega arith), c.loop-i.invariant.long)

pub draw_record-p-requires : goal.draw_record-p-requires
draw_record-p-requires c =
    (c.requires.0, record_part c.loop-i.out _ c.args.size (omega (arith, record_room c.loop-i.invariant c.requires.2 c.requires.1 (omega arith), c.loop-i.invariant.long)) c.requires.1)

pub overflow_add-short : goal.overflow_add-short
overflow_add-short c =
    omega (arith, c.from-short.ensures, bool_byte_lem (ltb c.draw_record-p.result.wrong c.args.asked), short_fits c.loop-i.invariant (omega arith) (ltb c.draw_record-p.result.wrong c.args.asked))

pub loop-i-preserved : goal.loop-i-preserved
loop-i-preserved c =
    recorded_more c.loop-i.invariant c.requires.2 c.requires.1 (omega arith) c.draw_record-p.ensures (ap (λ (x : ℕ). c.loop-i.short + x) (c.from-short.ensures ∙ bool_byte_lem _))

pub shape_of-out : goal.shape_of-out
shape_of-out c =
    c.loop-i.invariant.long

pub returns : goal.returns
returns c =
    recorded_all c.loop-i.invariant c.requires.2 (omega arith)

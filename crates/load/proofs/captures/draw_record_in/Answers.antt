-- `load::captures::draw_record_in` meets its contract: the block is drawn, then its record written. Assumes nothing.
use native.Mathlib.Omega.{arith}
use Rattle.capture.specs.Cases.{sized}
use Rattle.load.specs.CallLaws.{entry_code}
use Rattle.load.specs.CaptureLaws.{drawn_word, record_drawn}
use Rattle.load.proofs.captures.draw_record_in.Goals as goal

pub draw_block-p-requires : goal.draw_block-p-requires
draw_block-p-requires c =
    let q = c.requires in (entry_code q.0.proper q.0.known, q.1, q.2)

pub put_record-requires : goal.put_record-requires
put_record-requires c =
    let q = c.requires in
    let w = drawn_word c.draw_block-p.ensures in
    (omega (arith, w.size, (sized _ q.0.proper q.0.known).bytes), omega (arith, w.size, q.3), q.0.byte, w.bits)

pub returns : goal.returns
returns c =
    record_drawn c.draw_block-p.ensures c.put_record.ensures

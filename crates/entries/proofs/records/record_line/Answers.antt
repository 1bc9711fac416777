-- `entries::records::record_line` meets its contract: the reader's line is that of the decoder's answer. Assumes nothing.
use native.Mathlib.Omega.{arith}
use Rattle.readers.specs.Readers.{lines_for}
use Rattle.entries.specs.RecordLaws.{answered_lined, decodes_answered, decodes_area}
use Rattle.entries.proofs.records.record_line.Goals as goal

pub record_line-requires : goal.record_line-requires
record_line-requires c =
    (decodes_answered c.args.p c.requires.0 c.decode-answer.ensures, omega arith)

pub returns : goal.returns
returns c =
    let d = c.decode-answer.ensures in
    let h = decodes_answered c.args.p c.requires.0 d in
    (answered_lined h (lines_for c.args.reader) c.args.serial c.args.number _ c.record_line.ensures c.accepted_in.ensures, decodes_area c.args.p c.requires.0 d)

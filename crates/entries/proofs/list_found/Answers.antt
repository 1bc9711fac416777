-- `entries::list_found` meets its contract: each answer of the capture reader has its line. Assumes nothing.
use native.Mathlib.Omega.{arith}
use mathlib.Core.Path.{ap, sym, ◌∙◌}
use Rattle.std.specs.Prelude.{Ok}
use Rattle.tables.specs.Tables.{held}
use Rattle.capture.specs.Capture.{answer_of}
use Rattle.entries.specs.StepLaws.{found_start, found_word, record_decodable, record_there, step_none, step_refused, step_record}
use Rattle.entries.proofs.list_found.Goals as goal

pub returns-in-Err : goal.returns-in-Err
returns-in-Err c =
    step_refused (omega arith) (found_start c.requires.0 c.requires.1 c.record_in.ensures ∙ ap answer_of c.in-Err.is) c.refusal_line.ensures _

pub returns-in-None : goal.returns-in-None
returns-in-None c =
    step_none (omega arith) (found_start c.requires.0 c.requires.1 c.record_in.ensures ∙ ap answer_of (c.in-Ok.is ∙ ap Ok c.in-None.is)) _

pub unwrap-requires : goal.unwrap-requires
unwrap-requires c =
    let e = c.in-Ok.is ∙ ap Ok c.in-Some.is in
    record_there c.args.slot c.args.part.now (found_start c.requires.0 c.requires.1 c.record_in.ensures ∙ ap answer_of e)

pub record_line-line-requires : goal.record_line-line-requires
record_line-line-requires c =
    let f = c.record_in.ensures in
    let e = c.in-Ok.is ∙ ap Ok c.in-Some.is in
    (rw (sym (ap held c.unwrap.ensures)) (record_decodable c.args.slot c.args.part.now _ _ c.requires.0 (found_start c.requires.0 c.requires.1 f ∙ ap answer_of e) (found_word c.requires.0 c.requires.1 f e) (c.requires.2 ∙ sym c.record_in.auto.word) (omega arith)), omega arith)

pub returns-in-Some : goal.returns-in-Some
returns-in-Some c =
    let f = c.record_in.ensures in
    let e = c.in-Ok.is ∙ ap Ok c.in-Some.is in
    step_record (omega arith) (found_start c.requires.0 c.requires.1 f ∙ ap answer_of e) (found_word c.requires.0 c.requires.1 f e) (rw (sym (ap held c.unwrap.ensures)) at c.record_line-line.ensures)

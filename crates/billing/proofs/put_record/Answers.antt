-- `billing::put_record` meets its contract: each answer of the decoder has its line. Assumes nothing.
use native.Mathlib.Omega.{arith}
use mathlib.Core.Path.{sym, ◌∙◌}
use Rattle.text.specs.TextLaws.{decimal-length}
use Rattle.lines.specs.LineLaws.{refused_length}
use Rattle.billing.specs.AnswerLaws.{answered_accepted, answered_codeword, answered_refused}
use Rattle.billing.proofs.put_record.Goals as goal

pub accepted_line-requires : goal.accepted_line-requires
accepted_line-requires c =
    let h = c.requires.0 in
    let w = answered_codeword h c.in-Ok.is in
    (w, h.received.size ∙ sym w.codeword.word.size, omega arith)

pub refused_line-requires : goal.refused_line-requires
refused_line-requires c =
    let n = c.number.result in
    omega (arith, refused_length c.args.serial n, decimal-length 2 n (omega arith))

pub returns-in-Ok : goal.returns-in-Ok
returns-in-Ok c =
    λ number. rw (answered_accepted c.requires.0 c.in-Ok.is) c.accepted_line.ensures

pub returns-in-Err : goal.returns-in-Err
returns-in-Err c =
    λ number. rw (answered_refused c.requires.0 c.in-Err.is, ← c.number.ensures) c.refused_line.ensures

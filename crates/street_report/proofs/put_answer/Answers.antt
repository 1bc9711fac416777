-- `street_report::put_answer` meets its contract: each answer has its text. Assumes nothing.
use Rattle.std.proofs.Common.{arith}
use Rattle.text.specs.TextLaws.{decimal-length}
use Rattle.lines.specs.LineLaws.{refusal_length}
use Rattle.street_report.proofs.put_answer.Goals as goal

pub put_refusal-requires : goal.put_refusal-requires
put_refusal-requires c = omega (arith, refusal_length c.number.result, decimal-length 2 c.number.result (omega (arith, c.number.type_inv)))

pub returns-in-Right-clause-text : goal.returns-in-Right-clause-text
returns-in-Right-clause-text c = rw c.in-Right.is c.put_text.ensures

pub returns-in-Other-clause-text : goal.returns-in-Other-clause-text
returns-in-Other-clause-text c = rw c.in-Other.is c.put_text-in-Other.ensures

pub returns-in-Refused-clause-text : goal.returns-in-Refused-clause-text
returns-in-Refused-clause-text c = rw (c.in-Refused.is, ← c.number.ensures) c.put_refusal.ensures

pub returns-in-Refused-clause-ends : goal.returns-in-Refused-clause-ends
returns-in-Refused-clause-ends c =
    omega (arith, c.put_refusal.ensures.appended.ends, refusal_length c.number.result, decimal-length 2 c.number.result (omega (arith, c.number.type_inv)))

-- `readers::record_line` meets its contract: each reader has its line. Assumes nothing.
use Rattle.readers.proofs.record_line.Goals as goal

pub returns-in-Billing : goal.returns-in-Billing
returns-in-Billing c =
    rw c.in-Billing.is (c.record_line.ensures c.args.number)

pub returns-in-Crew : goal.returns-in-Crew
returns-in-Crew c =
    rw (c.in-Crew.is, ← c.requires.0.answer) c.record_line-in-Crew.ensures

-- `readers::refusal_line` meets its contract: each reader has its line. Assumes nothing.
use Rattle.readers.proofs.refusal_line.Goals as goal

pub returns-in-Billing : goal.returns-in-Billing
returns-in-Billing c =
    rw (← c.number-number.ensures, c.in-Billing.is) c.refusal_line.ensures

pub returns-in-Crew : goal.returns-in-Crew
returns-in-Crew c =
    rw (← c.number-number.ensures, c.in-Crew.is) c.refusal_line-in-Crew.ensures

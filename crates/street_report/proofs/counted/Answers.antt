-- `street_report::counted` meets its contract: each answer has its counts. Assumes nothing.
use Rattle.street_report.proofs.counted.Goals as goal

pub returns-in-Right : goal.returns-in-Right
returns-in-Right c =
    rw (c.in-Right.is, c.plus-sent.ensures, c.plus.ensures)

pub returns-in-Other : goal.returns-in-Other
returns-in-Other c =
    rw (c.in-Other.is, c.plus-sent.ensures, c.plus-in-Other.ensures)

pub returns-in-Refused : goal.returns-in-Refused
returns-in-Refused c =
    rw (c.in-Refused.is, c.plus-sent.ensures, c.plus-in-Refused.ensures, c.plus-in-Refused-2.ensures, c.at_last.ensures)

-- `streets::street_steps::sent_by` meets its contract. Assumes nothing.
use Rattle.streets.proofs.street_steps.sent_by.Goals as goal

pub returns : goal.returns
returns c =
    rw c.again.ensures

-- `privacy::list_both` meets its contract: both calls list for the crew. Assumes nothing.
use Rattle.privacy.specs.PrivacyLaws.{pieces_same}
use Rattle.privacy.proofs.list_both.Goals as goal

pub returns : goal.returns
returns c =
    λ h. pieces_same c.list_part-first.ensures.piece c.list_part-second.ensures.piece h

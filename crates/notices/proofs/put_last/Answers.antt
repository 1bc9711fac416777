-- `notices::put_last` meets its contract: its texts stand one after the other. Assumes nothing.
use Rattle.text.specs.TextLaws.{added_also}
use Rattle.notices.proofs.put_last.Goals as goal

pub returns : goal.returns
returns c =
    added_also (added_also (added_also (added_also c.put_decimal.ensures c.put_text.ensures) c.put_decimal-2.ensures) c.put_text-2.ensures) c.put_byte.ensures

-- `lines::put_refusal` meets its contract: its texts stand one after the other. Assumes nothing.
use Rattle.text.specs.TextLaws.{added_also}
use Rattle.lines.proofs.put_refusal.Goals as goal

pub returns : goal.returns
returns c = rw (← c.from.ensures) (added_also c.put_text.ensures c.put_decimal.ensures)

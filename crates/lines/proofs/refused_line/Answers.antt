-- `lines::refused_line` meets its contract: its texts stand one after the other. Assumes nothing.
use Rattle.text.specs.TextLaws.{added_also}
use Rattle.lines.proofs.refused_line.Goals as goal

pub returns : goal.returns
returns c = added_also (added_also c.put_ten.ensures c.put_refusal.ensures) c.put_byte.ensures

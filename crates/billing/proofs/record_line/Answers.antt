-- `billing::record_line` meets its contract: it is what the writer put. Assumes nothing.
use Rattle.std.proofs.Common.{rules}
use Rattle.billing.proofs.record_line.Goals as goal

pub returns : goal.returns
returns c = λ number. let a = c.put_record.ensures number in search rules

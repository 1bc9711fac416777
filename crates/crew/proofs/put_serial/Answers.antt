-- `crew::put_serial` meets its contract. Assumes nothing.
use Rattle.std.proofs.Common.{arith, eq-eqb, ne_eqb}
use Rattle.crew.proofs.put_serial.Goals as goal

pub returns-then-refusal-eq16 : goal.returns-then-refusal-eq16
returns-then-refusal-eq16 c = rw (eq-eqb c.args.refusal 16 (omega arith)) c.put_text.ensures

pub returns-else-refusal-eq16 : goal.returns-else-refusal-eq16
returns-else-refusal-eq16 c = rw (ne_eqb c.args.refusal 16 (λ e. omega arith)) c.put_ten.ensures

-- `lines::put_refused` meets its contract: each number has its line, which fits. Assumes nothing.
use Rattle.std.proofs.Common.{arith, eq-eqb, ne_eqb}
use Rattle.text.specs.TextLaws.{decimal-length}
use Rattle.lines.specs.LineLaws.{cut_length, refused_length}
use Rattle.lines.proofs.put_refused.Goals as goal

pub cut_line-requires : goal.cut_line-requires
cut_line-requires c = omega (arith, cut_length, decimal-length 2 16 (omega arith))

pub refused_line-requires : goal.refused_line-requires
refused_line-requires c = omega (arith, refused_length c.args.serial c.args.number, decimal-length 2 c.args.number (omega arith))

pub returns-then-number-eq16 : goal.returns-then-number-eq16
returns-then-number-eq16 c = rw (eq-eqb c.args.number 16 (omega arith)) c.cut_line.ensures

pub returns-else-number-eq16 : goal.returns-else-number-eq16
returns-else-number-eq16 c = rw (ne_eqb c.args.number 16 (λ e. omega arith)) c.refused_line.ensures

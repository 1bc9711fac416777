-- `array_lines::columns::gather` meets its contract. Assumes nothing.
use Rattle.std.proofs.Common.{refl, arith}
use Rattle.words.specs.Written.{written_all, written_more, written_none, written_to}
use Rattle.array_lines.proofs.columns.gather.Goals as goal

pub loop-i-init : goal.loop-i-init
loop-i-init c =
    written_none 0 0 _ _

pub overflow_mul-line : goal.overflow_mul-line
overflow_mul-line c =
    omega (arith, c.requires.each c.loop-i.i (omega arith))

pub overflow_add-line : goal.overflow_add-line
overflow_add-line c =
    omega (arith, c.requires.each c.loop-i.i (omega arith))

pub bounds-grid-i : goal.bounds-grid-i
bounds-grid-i c =
    c.requires.each c.loop-i.i (omega arith)

pub loop-i-preserved : goal.loop-i-preserved
loop-i-preserved c =
    written_more c.loop-i.invariant c.loop-i.i _ (omega arith) (omega arith) refl

pub returns : goal.returns
returns c =
    written_all (written_to c.loop-i.invariant _ (omega arith)) refl

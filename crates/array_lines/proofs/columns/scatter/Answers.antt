-- `array_lines::columns::scatter` meets its contract. Assumes nothing.
use Rattle.std.proofs.Common.{arith, subst}
use Rattle.array_lines.specs.Scattered.{Scattered}
use Rattle.array_lines.specs.ScatteredLaws.{scattered_more, scattered_none}
use Rattle.array_lines.proofs.columns.scatter.Goals as goal

pub loop-i-init : goal.loop-i-init
loop-i-init c =
    scattered_none _ _ _ _

pub overflow_mul-grid : goal.overflow_mul-grid
overflow_mul-grid c =
    omega (arith, c.requires.0.each c.loop-i.i (omega arith))

pub overflow_add-grid : goal.overflow_add-grid
overflow_add-grid c =
    omega (arith, c.requires.0.each c.loop-i.i (omega arith))

pub bounds-grid-i : goal.bounds-grid-i
bounds-grid-i c =
    omega (arith, c.requires.0.each c.loop-i.i (omega arith))

pub loop-i-preserved : goal.loop-i-preserved
loop-i-preserved c =
    scattered_more c.loop-i.invariant c.requires.1 (c.requires.0.each c.loop-i.i (omega arith))

pub returns : goal.returns
returns c =
    let a = c.args in
    subst (λ (n : _). Scattered a.line.now a.j a.a n a.grid.now c.loop-i.grid) (omega arith) c.loop-i.invariant

-- `tallies::scripts::run` meets its contract: what stands after each operation is what the history up to it leaves. Assumes nothing.
use native.Mathlib.Omega.{arith}
use Rattle.tallies.specs.ScriptLaws.{running_starts, running_fits, running_more, running_ends}
use Rattle.tallies.proofs.scripts.run.Goals as goal

pub loop-made-init : goal.loop-made-init
loop-made-init c =
    rw (c.before-last.ensures, c.empty.ensures) (running_starts _ _ _)

pub returns-then-size-eq0 : goal.returns-then-size-eq0
returns-then-size-eq0 c =
    running_ends c.loop-made.invariant c.ended.ensures.0 c.ended.ensures.1 (λ l. omega arith)

pub overflow_add-at : goal.overflow_add-at
overflow_add-at c =
    omega (arith, running_fits c.loop-made.invariant c.size_at-size.ensures (omega arith))

pub loop-made-preserved : goal.loop-made-preserved
loop-made-preserved c =
    running_more c.loop-made.invariant (omega (arith, c.loop-made.invariant.written.long)) c.size_at-size.ensures (omega arith) c.operate.ensures c.number.ensures

pub returns : goal.returns
returns c =
    running_ends c.loop-made.invariant (omega (arith, c.ended-2.ensures.0, c.loop-made.invariant.written.long)) c.ended-2.ensures.1 (λ l. absurd (omega (arith, c.loop-made.invariant.written.long)))

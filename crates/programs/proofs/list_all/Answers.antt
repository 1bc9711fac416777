-- `programs::list_all` meets its contract: each turn of the loop is one of the run. Assumes nothing.
use Rattle.std.proofs.Common.{ap, arith, sym, ◌∙◌}
use Rattle.std.proofs.lemmas.Bool.{false≢true}
use Rattle.turns.specs.declared.State.{State}
use Rattle.programs.specs.ProgramLaws.{held_less, moves_none, moves_on, run_ends, run_on, run_starts}
use Rattle.programs.proofs.list_all.Goals as goal

pub loop-turns-init : goal.loop-turns-init
loop-turns-init g c = record { within = omega arith; running = run_starts _; moved = moves_none _ _ }

pub loop-turns-preserved : goal.loop-turns-preserved
loop-turns-preserved g c =
    let i = c.loop-turns.invariant in
    let f = c.filled.ensures in
    let l = c.listed-s.ensures in
    record {
      within = omega (arith, held_less l.turned, f.filled.within);
      running = run_on i.running c.if-s.true c.loop-turns-test.true f.filled l.turned;
      moved = moves_on _ _ i.moved f.taken f.ended l.wrote l.whole l.failing (ap (λ (x : State). x.last) l.turned.state);
    }

pub returns-else-s : goal.returns-else-s
returns-else-s g c = record {
  ran = run_ends c.loop-turns.invariant.running (λ e. absurd (false≢true (sym c.if-s.false ∙ e)));
  moved = c.loop-turns.invariant.moved;
}

pub returns-after-loop-turns : goal.returns-after-loop-turns
returns-after-loop-turns g c = record {
  ran = run_ends c.loop-turns.invariant.running (λ e. omega arith);
  moved = c.loop-turns.invariant.moved;
}

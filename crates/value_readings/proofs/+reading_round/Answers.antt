-- The cycle of calls of `reading` and `round`. Assumes nothing.
use Rattle.std.proofs.Common.{arith}
use Rattle.value_readings.proofs.Directions.{next_projects, from_of, lent_of, came_of, progress_none, lent_ready, came_asks, heard_over, heard_absent, heard_more, last_asks, last_renewed}
use Rattle.value_readings.proofs.Turns.{turn_first, turn_ready, turn_exhausted, turn_more, turn_last, leaf_lower}
use Rattle.value_readings.proofs.+reading_round.Goals as goal

-- ---- `reading`

pub reading-loop-init : goal.reading-loop-init
reading-loop-init t c = turn_first c.args.m c.args.r c.args.rounds c.args.left c.args.area.now c.requires.le_r c.requires.ready

pub reading-overflow_sub-left : goal.reading-overflow_sub-left
reading-overflow_sub-left t c = c.loop.invariant.few

pub reading-round-requires : goal.reading-round-requires
reading-round-requires t c =
    let a = c.args in
    (omega (arith, c.requires.le_r, c.decreases), turn_ready a.m a.r a.rounds a.left a.area.now c.loop.invariant)

pub reading-returns-in_default : goal.reading-returns-in_default
reading-returns-in_default t c =
    let a = c.args in
    turn_exhausted a.m a.r a.rounds a.left a.area.now c.loop.invariant c.loop-test.true c.round.ensures c.in_default.is c.exhausted.ensures

pub reading-loop-preserved : goal.reading-loop-preserved
reading-loop-preserved t c =
    let a = c.args in
    turn_more a.m a.r a.rounds a.left a.area.now c.loop.invariant c.loop-test.true c.round.ensures _ c.in-Some.is

pub reading-returns : goal.reading-returns
reading-returns t c =
    let a = c.args in
    turn_last a.m a.r a.rounds a.left a.area.now c.loop.invariant (omega arith) c.finish.ensures.read c.finish.ensures.place

-- ---- `round`

pub round-returns-then-r-eq1 : goal.round-returns-then-r-eq1
round-returns-then-r-eq1 t c = leaf_lower _ _ c.if-r-eq1.true c.leaf_round.ensures

pub round-loop-i-init : goal.round-loop-i-init
round-loop-i-init t c = progress_none (from_of c.args.rounds c.requires.ready c.requires.le_r c.size-n.ensures c.clear.ensures)

pub round-project-requires : goal.round-project-requires
round-project-requires t c =
    next_projects (from_of c.args.rounds c.requires.ready c.requires.le_r c.size-n.ensures c.clear.ensures) c.loop-i.invariant (omega (arith, c.size-n.ensures, c.loop-i-test.true)) (omega (arith, c.size-n.ensures))

pub round-overflow_sub-left : goal.round-overflow_sub-left
round-overflow_sub-left t c = c.loop-i.invariant.few

pub round-reading-told-requires : goal.round-reading-told-requires
round-reading-told-requires t c = (
  omega (arith, c.decreases),
  (
    lent_ready (lent_of c.args.rounds c.requires.ready c.requires.le_r c.size-n.ensures c.clear.ensures c.loop-i.invariant c.loop-i-test.true c.project.ensures),
    omega (arith, c.requires.le_r, c.if-r-eq1.false),
  ),
)

pub round-hear_answer-requires : goal.round-hear_answer-requires
round-hear_answer-requires t c =
    let k = came_asks (came_of c.args.rounds c.requires.ready c.requires.le_r c.size-n.ensures c.clear.ensures c.loop-i.invariant c.loop-i-test.true c.project.ensures c.reading-told.auto.area c.reading-told.ensures) in
    record { projects = k.0; sums = k.1.0; voter = k.1.1 }

pub round-returns-in_err-count : goal.round-returns-in_err-count
round-returns-in_err-count t c =
    rw c.from_residual.ensures (heard_over (came_of c.args.rounds c.requires.ready c.requires.le_r c.size-n.ensures c.clear.ensures c.loop-i.invariant c.loop-i-test.true c.project.ensures c.reading-told.auto.area c.reading-told.ensures) c.hear_answer.ensures.counted c.hear_answer.ensures.heard c.in_err-count.was)

pub round-overflow_add-abstained : goal.round-overflow_add-abstained
round-overflow_add-abstained t c =
    let h = heard_absent (came_of c.args.rounds c.requires.ready c.requires.le_r c.size-n.ensures c.clear.ensures c.loop-i.invariant c.loop-i-test.true c.project.ensures c.reading-told.auto.area c.reading-told.ensures) c.hear_answer.ensures.counted c.hear_answer.ensures.heard _ c.in_ok-count.was in
    record { fits = omega (arith, h) }

pub round-loop-i-preserved : goal.round-loop-i-preserved
round-loop-i-preserved t c =
    heard_more (came_of c.args.rounds c.requires.ready c.requires.le_r c.size-n.ensures c.clear.ensures c.loop-i.invariant c.loop-i-test.true c.project.ensures c.reading-told.auto.area c.reading-told.ensures) c.hear_answer.ensures.counted c.hear_answer.ensures.heard _ c.in_ok-count.was

pub round-conclude-requires : goal.round-conclude-requires
round-conclude-requires t c =
    last_asks (from_of c.args.rounds c.requires.ready c.requires.le_r c.size-n.ensures c.clear.ensures) c.loop-i.invariant (omega (arith, c.size-n.ensures, c.loop-i-test.false))

pub round-returns : goal.round-returns
round-returns t c =
    last_renewed (from_of c.args.rounds c.requires.ready c.requires.le_r c.size-n.ensures c.clear.ensures) c.loop-i.invariant (omega (arith, c.size-n.ensures, c.loop-i-test.false)) c.conclude.ensures

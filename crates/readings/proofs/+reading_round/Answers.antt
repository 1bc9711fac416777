-- The cycle of calls {reading, round} meets its contracts. Assumes nothing.
use Rattle.std.proofs.Common.{arith}
use Rattle.std.proofs.Math.Pow.{pow_mono}
use Rattle.told.specs.ToldLaws.{changed_reads}
use Rattle.readings.proofs.Directions.{starting, started_from, started_poll, started_done, started_stage, started_lent, stage_projects, lent_ready, answered_cast, heard, heard_cast, cast_front, cast_long, cast_over, cast_absent, cast_more, poll_spent}
use Rattle.readings.proofs.Turns.{made_of, flips_of, above, turn_first, turn_last, turn_exhausted, ready_round, made_flips, flips_bits, flips_again, flips_settled, flips_kept, read_zero, read_one, read_none}
use Rattle.readings.proofs.+reading_round.Goals as goal

-- ---- `reading`

pub reading-returns-then-r-eq0-clause-read : goal.reading-returns-then-r-eq0-clause-read
reading-returns-then-r-eq0-clause-read t c = read_zero _ _ _ _ _ _ c.if-r-eq0.true c.zero_order.ensures.read

pub reading-returns-then-left-eq0-clause-read : goal.reading-returns-then-left-eq0-clause-read
reading-returns-then-left-eq0-clause-read t c = changed_reads c.refused.ensures (read_none _ _ _ _ _ _ c.if-r-eq1.true c.if-left-eq0.true)

pub reading-returns-then-r-eq1-clause-read : goal.reading-returns-then-r-eq1-clause-read
reading-returns-then-r-eq1-clause-read t c = read_one _ _ _ _ _ _ c.if-r-eq1.true c.if-left-eq0.false c.first_order.ensures.read

pub reading-loop-k-init : goal.reading-loop-k-init
reading-loop-k-init t c = turn_first _ _ _ _ _ (above c.if-r-eq0.false c.if-r-eq1.false) c.requires.some c.requires.bits

pub reading-overflow_sub-left : goal.reading-overflow_sub-left
reading-overflow_sub-left t c = c.loop-k.invariant.few

pub reading-round-requires : goal.reading-round-requires
reading-round-requires t c =
    let h = above c.if-r-eq0.false c.if-r-eq1.false in
    (omega (arith, h, c.decreases), (ready_round _ h c.requires c.loop-k.invariant.long c.loop-k.invariant.bits, omega (arith, h)))

pub reading-returns-in_default-clause-read : goal.reading-returns-in_default-clause-read
reading-returns-in_default-clause-read t c =
    changed_reads c.refused-in_default.ensures (turn_exhausted c.loop-k.invariant c.loop-k-test.true c.round.ensures c.in_default.is)

pub reading-flip-requires : goal.reading-flip-requires
reading-flip-requires t c =
    let k = made_flips (made_of c.if-r-eq0.false c.if-r-eq1.false c.requires c.loop-k.invariant c.loop-k-test.true c.round.auto.area c.round.ensures c.in-Some.is) _ c.size-n.ensures c.requires.small in
    record { abstained_lt_n = k.0; bits = k.1.0; tally = k.1.1 }

pub reading-settle-requires : goal.reading-settle-requires
reading-settle-requires t c =
    let f = flips_of c.if-r-eq0.false c.if-r-eq1.false c.requires c.loop-k.invariant c.loop-k-test.true c.round.auto.area c.round.ensures c.in-Some.is
    c.size-n.ensures c.flip.ensures.settled c.flip.ensures.flipped in
    (c.requires.small, omega (arith, c.requires.room, c.flip.auto.area, c.round.auto.area, c.loop-k.invariant.long), flips_bits f)

pub reading-returns-then-flip : goal.reading-returns-then-flip
reading-returns-then-flip t c =
    let f = flips_of c.if-r-eq0.false c.if-r-eq1.false c.requires c.loop-k.invariant c.loop-k-test.true c.round.auto.area c.round.ensures c.in-Some.is
    c.size-n.ensures c.flip.ensures.settled c.flip.ensures.flipped in
    record {
      read = flips_settled f c.if-flip.true c.settle.ensures.tested c.settle.ensures.same;
      kept = record { same = λ q. flips_kept f c.if-flip.true (c.settle.ensures.first q) c.settle.ensures.same };
    }

pub reading-loop-k-preserved : goal.reading-loop-k-preserved
reading-loop-k-preserved t c =
    let f = flips_of c.if-r-eq0.false c.if-r-eq1.false c.requires c.loop-k.invariant c.loop-k-test.true c.round.auto.area c.round.ensures c.in-Some.is
    c.size-n.ensures c.flip.ensures.settled c.flip.ensures.flipped in
    flips_again f c.if-flip.false

pub reading-returns-clause-read : goal.reading-returns-clause-read
reading-returns-clause-read t c = changed_reads c.refused-2.ensures (turn_last c.loop-k.invariant c.loop-k-test.false)

-- ---- `round`

pub round-loop-i-init : goal.round-loop-i-init
round-loop-i-init t c = started_poll (starting c.requires.ready c.requires.le_r c.size-n.ensures c.fill.ensures) c.args.rounds

pub round-project-requires : goal.round-project-requires
round-project-requires t c = stage_projects (started_stage (starting c.requires.ready c.requires.le_r c.size-n.ensures c.fill.ensures) c.loop-i.invariant c.loop-i-test.true)

pub round-overflow_sub-left : goal.round-overflow_sub-left
round-overflow_sub-left t c = c.loop-i.invariant.few

pub round-reading-told-requires : goal.round-reading-told-requires
round-reading-told-requires t c = (omega (arith, c.decreases), lent_ready (started_lent (starting c.requires.ready c.requires.le_r c.size-n.ensures c.fill.ensures) c.loop-i.invariant c.loop-i-test.true c.project.ensures))

pub round-cast-requires : goal.round-cast-requires
round-cast-requires t c =
    let k = answered_cast (heard c.requires.ready c.requires.le_r c.size-n.ensures c.fill.ensures c.loop-i.invariant c.loop-i-test.true c.project.ensures
    c.reading-told.auto.area c.reading-told.ensures.read c.reading-told.ensures.kept) in
    record { projects = k.0; tally = k.1.0; voter = k.1.1.0; unmoved = k.1.1.1 }

pub round-returns-in_err-count : goal.round-returns-in_err-count
round-returns-in_err-count t c =
    let a = heard_cast c.requires.ready c.requires.le_r c.size-n.ensures c.fill.ensures c.loop-i.invariant c.loop-i-test.true c.project.ensures
    c.reading-told.auto.area c.reading-told.ensures.read c.reading-told.ensures.kept
    c.cast.ensures.counted c.cast.ensures.voted in
    rw c.from_residual.ensures (poll_spent (started_from (starting c.requires.ready c.requires.le_r c.size-n.ensures c.fill.ensures) c.args.rounds) (cast_long a) (cast_front a) (cast_over a c.in_err-count.was))

pub round-overflow_add-abstained : goal.round-overflow_add-abstained
round-overflow_add-abstained t c =
    let a = heard_cast c.requires.ready c.requires.le_r c.size-n.ensures c.fill.ensures c.loop-i.invariant c.loop-i-test.true c.project.ensures
    c.reading-told.auto.area c.reading-told.ensures.read c.reading-told.ensures.kept
    c.cast.ensures.counted c.cast.ensures.voted in
    let k = cast_absent a _ c.in_ok-count.was in
    record { fits = omega (arith, k, c.size-n.ensures, pow_mono {i = c.args.m} {j = 9} (omega (arith, c.requires.ready.small))) }

pub round-loop-i-preserved : goal.round-loop-i-preserved
round-loop-i-preserved t c =
    let a = heard_cast c.requires.ready c.requires.le_r c.size-n.ensures c.fill.ensures c.loop-i.invariant c.loop-i-test.true c.project.ensures
    c.reading-told.auto.area c.reading-told.ensures.read c.reading-told.ensures.kept
    c.cast.ensures.counted c.cast.ensures.voted in
    cast_more a _ c.in_ok-count.was

pub round-returns : goal.round-returns
round-returns t c = started_done (starting c.requires.ready c.requires.le_r c.size-n.ensures c.fill.ensures) c.loop-i.invariant c.loop-i-test.false

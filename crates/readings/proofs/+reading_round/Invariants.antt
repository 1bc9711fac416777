-- `reading` at order r calls `round` at r - 1, which calls `reading` at r - 1: the measures are 2 r and 2 r + 1.
use Rattle.std.proofs.Common.{◌+◌, ◌*◌}
use Rattle.readings.proofs.Directions.{Poll, round_of}
use Rattle.readings.proofs.Turns.{Turn, series}
use Rattle.readings.proofs.+reading_round.Given as goal

abbrev pub decreases-reading : goal.decreases-reading
decreases-reading l = 2 * l.r

abbrev pub decreases-round : goal.decreases-round
decreases-round l = 2 * l.r + 1

abbrev pub invariant-reading-loop-k : goal.invariant-reading-loop-k
invariant-reading-loop-k l = Turn (series l.m l.r l.rounds l.left l.initial.area) l.area l.k l.used

abbrev pub invariant-round-loop-i : goal.invariant-round-loop-i
invariant-round-loop-i l = Poll (round_of l.m l.r l.rounds l.left l.initial.area) l.area l.i l.used l.abstained

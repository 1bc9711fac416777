-- `votes::vote_fours` meets its contract: a turn adds the votes of four cosets at both members. Assumes nothing.
use Rattle.std.specs.Prelude.{◌+◌, ◌*◌}
use Rattle.cosets.proofs.VoteLoops.{VotedBelow}
use Rattle.votes.proofs.vote_fours.Given as goal

abbrev pub invariant-loop-k : goal.invariant-loop-k
invariant-loop-k l = VotedBelow l.m (l.w + l.l) l.initial.area (4 * l.k) l.area

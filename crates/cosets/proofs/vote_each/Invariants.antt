-- `cosets::vote_each` meets its contract: a turn adds the vote of one coset at both its members. Assumes nothing.
use Rattle.cosets.proofs.VoteLoops.{VotedBelow}
use Rattle.cosets.proofs.vote_each.Given as goal

abbrev pub invariant-loop-q : goal.invariant-loop-q
invariant-loop-q l = VotedBelow l.m l.b l.initial.area l.q l.area

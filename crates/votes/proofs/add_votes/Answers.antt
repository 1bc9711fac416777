-- `votes::add_votes` meets its contract: by cosets below 4, and by blocks of 4 cosets from there on. Assumes nothing.
use native.Mathlib.Omega.{arith}
use Rattle.direction.proofs.Members.{direction_lt}
use Rattle.votes.proofs.VoteCalls.{vote_asks, voted_by}
use Rattle.votes.proofs.add_votes.Goals as goal

pub highest_bit-h-requires : goal.highest_bit-h-requires
highest_bit-h-requires c =
    (c.requires.projects.direction.some, direction_lt c.requires.projects.direction)

pub vote_fours-requires : goal.vote_fours-requires
vote_fours-requires c =
    let given = vote_asks c.requires.projects _ 0 (omega arith) c.highest_bit-h.ensures.0 (omega arith) (omega arith) c.requires.tally c.requires.in_projection in record { in_fours = given.0; projects = given.1.0; tally = given.1.1.0; in_projection = given.1.1.1 }

pub vote_fours-requires-then-l-eq1 : goal.vote_fours-requires-then-l-eq1
vote_fours-requires-then-l-eq1 c =
    let given = vote_asks c.requires.projects _ 1 (omega arith) c.highest_bit-h.ensures.0 (omega arith) (omega arith) c.requires.tally c.requires.in_projection in record { in_fours = given.0; projects = given.1.0; tally = given.1.1.0; in_projection = given.1.1.1 }

pub vote_fours-requires-then-l-eq2 : goal.vote_fours-requires-then-l-eq2
vote_fours-requires-then-l-eq2 c =
    let given = vote_asks c.requires.projects _ 2 (omega arith) c.highest_bit-h.ensures.0 (omega arith) (omega arith) c.requires.tally c.requires.in_projection in record { in_fours = given.0; projects = given.1.0; tally = given.1.1.0; in_projection = given.1.1.1 }

pub vote_fours-requires-else-l-eq2 : goal.vote_fours-requires-else-l-eq2
vote_fours-requires-else-l-eq2 c =
    let given = vote_asks c.requires.projects _ 3 (omega arith) c.highest_bit-h.ensures.0 (omega arith) (omega arith) c.requires.tally c.requires.in_projection in record { in_fours = given.0; projects = given.1.0; tally = given.1.1.0; in_projection = given.1.1.1 }

pub returns-then-l-eq0 : goal.returns-then-l-eq0
returns-then-l-eq0 c =
    voted_by c.requires.projects _ 0 (omega arith) c.vote_fours.ensures

pub returns-then-l-eq1 : goal.returns-then-l-eq1
returns-then-l-eq1 c =
    voted_by c.requires.projects _ 1 (omega arith) c.vote_fours-then-l-eq1.ensures

pub returns-then-l-eq2 : goal.returns-then-l-eq2
returns-then-l-eq2 c =
    voted_by c.requires.projects _ 2 (omega arith) c.vote_fours-then-l-eq2.ensures

pub returns-else-l-eq2 : goal.returns-else-l-eq2
returns-else-l-eq2 c =
    voted_by c.requires.projects _ 3 (omega arith) c.vote_fours-else-l-eq2.ensures

-- `projections::project` meets its contract: by cosets below 4, and by blocks of 4 cosets from there on. Assumes nothing.
use native.Mathlib.Omega.{arith}
use Rattle.direction.proofs.Members.{direction_lt}
use Rattle.projections.proofs.FourCalls.{project_asks, projected_by}
use Rattle.projections.proofs.project.Goals as goal

pub highest_bit-h-requires : goal.highest_bit-h-requires
highest_bit-h-requires c =
    (c.requires.direction.some, direction_lt c.requires.direction)

pub project_fours-requires : goal.project_fours-requires
project_fours-requires c =
    let given = project_asks c.requires _ 0 (omega arith) c.highest_bit-h.ensures.0 (omega arith) (omega arith) in record { in_fours = given.0; projects = given.1 }

pub project_fours-requires-then-l-eq1 : goal.project_fours-requires-then-l-eq1
project_fours-requires-then-l-eq1 c =
    let given = project_asks c.requires _ 1 (omega arith) c.highest_bit-h.ensures.0 (omega arith) (omega arith) in record { in_fours = given.0; projects = given.1 }

pub project_fours-requires-then-l-eq2 : goal.project_fours-requires-then-l-eq2
project_fours-requires-then-l-eq2 c =
    let given = project_asks c.requires _ 2 (omega arith) c.highest_bit-h.ensures.0 (omega arith) (omega arith) in record { in_fours = given.0; projects = given.1 }

pub project_fours-requires-else-l-eq2 : goal.project_fours-requires-else-l-eq2
project_fours-requires-else-l-eq2 c =
    let given = project_asks c.requires _ 3 (omega arith) c.highest_bit-h.ensures.0 (omega arith) (omega arith) in record { in_fours = given.0; projects = given.1 }

pub returns-then-l-eq0 : goal.returns-then-l-eq0
returns-then-l-eq0 c =
    projected_by c.requires _ 0 (omega arith) c.project_fours.ensures

pub returns-then-l-eq1 : goal.returns-then-l-eq1
returns-then-l-eq1 c =
    projected_by c.requires _ 1 (omega arith) c.project_fours-then-l-eq1.ensures

pub returns-then-l-eq2 : goal.returns-then-l-eq2
returns-then-l-eq2 c =
    projected_by c.requires _ 2 (omega arith) c.project_fours-then-l-eq2.ensures

pub returns-else-l-eq2 : goal.returns-else-l-eq2
returns-else-l-eq2 c =
    projected_by c.requires _ 3 (omega arith) c.project_fours-else-l-eq2.ensures

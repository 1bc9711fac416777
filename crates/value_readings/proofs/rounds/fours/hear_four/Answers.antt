-- `value_readings::rounds::fours::hear_four` meets its contract. Assumes nothing.
use native.Mathlib.Omega.{arith}
use lib.Pow.{pow_mono}
use Rattle.value_readings.specs.LeafLaws.{quad_asks}
use Rattle.value_readings.proofs.FourReads.{first_leaf, second_leaf, third_leaf, fourth_leaf, share_asks, four_heard}
use Rattle.value_readings.proofs.rounds.fours.hear_four.Goals as goal

pub size-n-requires : goal.size-n-requires
size-n-requires c =
    omega (arith, c.requires.poll.round.few)

pub project_four-requires : goal.project_four-requires
project_four-requires c =
    quad_asks c.requires.le_k.0 c.requires.le_k.1 c.requires.poll

pub overflow_mul-n : goal.overflow_mul-n
overflow_mul-n c =
    record { fits = omega (arith, c.size-n.ensures, pow_mono {i = c.args.m} {j = 9} c.requires.poll.round.few) }

pub read_part-a-requires : goal.read_part-a-requires
read_part-a-requires c =
    first_leaf c.requires.le_k.0 c.requires.le_k.1 c.requires.poll c.size-n.ensures c.project_four.ensures

pub overflow_mul-n-2 : goal.overflow_mul-n-2
overflow_mul-n-2 c =
    record { fits = omega (arith, c.size-n.ensures, pow_mono {i = c.args.m} {j = 9} c.requires.poll.round.few) }

pub read_part-b-requires : goal.read_part-b-requires
read_part-b-requires c =
    second_leaf c.requires.le_k.0 c.requires.le_k.1 c.requires.poll c.size-n.ensures c.project_four.ensures c.read_part-a.ensures

pub overflow_mul-n-3 : goal.overflow_mul-n-3
overflow_mul-n-3 c =
    record { fits = omega (arith, c.size-n.ensures, pow_mono {i = c.args.m} {j = 9} c.requires.poll.round.few) }

pub read_part-c-requires : goal.read_part-c-requires
read_part-c-requires c =
    third_leaf c.requires.le_k.0 c.requires.le_k.1 c.requires.poll c.size-n.ensures c.project_four.ensures c.read_part-a.ensures c.read_part-b.ensures

pub overflow_mul-n-4 : goal.overflow_mul-n-4
overflow_mul-n-4 c =
    record { fits = omega (arith, c.size-n.ensures, pow_mono {i = c.args.m} {j = 9} c.requires.poll.round.few) }

pub read_part-d-requires : goal.read_part-d-requires
read_part-d-requires c =
    fourth_leaf c.requires.le_k.0 c.requires.le_k.1 c.requires.poll c.size-n.ensures c.project_four.ensures c.read_part-a.ensures c.read_part-b.ensures c.read_part-c.ensures

pub share_words-requires : goal.share_words-requires
share_words-requires c =
    let given = share_asks c.requires.le_k.0 c.requires.le_k.1 c.requires.poll c.size-n.ensures c.project_four.ensures c.read_part-a.ensures c.read_part-b.ensures c.read_part-c.ensures c.read_part-d.ensures in record { projects_four = given.0; sums_2 = given.1 }

pub returns : goal.returns
returns c =
    four_heard c.requires.le_k.0 c.requires.le_k.1 c.requires.poll c.size-n.ensures c.project_four.ensures c.read_part-a.ensures c.read_part-b.ensures c.read_part-c.ensures c.read_part-d.ensures c.share_words.ensures.count c.share_words.ensures.sums

-- `value_readings::rounds::leaves::hear` meets its contract. Assumes nothing.
use Prim.Native.Nat.{◌*◌, ◌^◌}
use mathlib.Core.Path.{◌≡◌}
use native.Mathlib.Numerals.{add-one}
use native.Mathlib.Omega.{arith}
use lib.Pow.{pow_mono}
use Rattle.value_readings.specs.LeafLaws.{one_asks, one_leaf, one_more}
use Rattle.value_readings.specs.PollLaws.{poll_projects, polled_none}
use Rattle.value_readings.proofs.rounds.leaves.hear.Goals as goal

pub size-c-requires : goal.size-c-requires
size-c-requires c =
    omega (arith, c.requires.poll.round.few)

pub overflow_mul-c : goal.overflow_mul-c
overflow_mul-c c =
    let place : 4 * c.size-c.result ≡ 4 * 2 ^ c.args.m = omega (arith, c.size-c.ensures) in
    record { fits = omega (arith, place, pow_mono {i = c.args.m} {j = 9} c.requires.poll.round.few) }

pub overflow_add-i : goal.overflow_add-i
overflow_add-i c =
    record { fits = omega (arith, c.requires.i_bound, pow_mono {i = c.args.m} {j = 9} c.requires.poll.round.few) }

pub project-requires : goal.project-requires
project-requires c =
    let place : 4 * c.size-c.result ≡ 4 * 2 ^ c.args.m = omega (arith, c.size-c.ensures) in
    poll_projects c.requires.poll (polled_none c.requires.poll).front (omega arith) (omega (arith, c.requires.i_bound)) (omega (arith, place))
    (omega (arith, place, c.requires.poll.round.room))

pub read_part-word-requires : goal.read_part-word-requires
read_part-word-requires c =
    let place : 4 * c.size-c.result ≡ 4 * 2 ^ c.args.m = omega (arith, c.size-c.ensures) in
    one_leaf c.requires.poll c.requires.i_bound (add-one c.args.i) (place) c.project.ensures

pub overflow_add-i-2 : goal.overflow_add-i-2
overflow_add-i-2 c =
    record { fits = omega (arith, c.requires.i_bound, pow_mono {i = c.args.m} {j = 9} c.requires.poll.round.few) }

pub share_word-requires : goal.share_word-requires
share_word-requires c =
    let place : 4 * c.size-c.result ≡ 4 * 2 ^ c.args.m = omega (arith, c.size-c.ensures) in
    let given = one_asks c.requires.poll c.requires.i_bound (add-one c.args.i) (place) c.project.ensures c.read_part-word.ensures in record { projects = given.0; sums_2 = given.1 }

pub returns : goal.returns
returns c =
    let place : 4 * c.size-c.result ≡ 4 * 2 ^ c.args.m = omega (arith, c.size-c.ensures) in
    rw c.share_word.ensures.count
    (one_more c.requires.poll c.requires.i_bound (add-one c.args.i) (place) c.project.ensures c.read_part-word.ensures c.share_word.ensures.sums)

-- `value_readings::rounds::leaf_round` meets its contract: the loop has heard directions 1 to `used`. Assumes nothing.
use Prim.Native.Nat.{ℕ, suc, ◌+◌, ◌-◌, ◌*◌, ◌^◌, ◌≤◌}
use mathlib.Core.Path.{◌≡◌, sym, subst, ◌∙◌}
use native.Mathlib.Omega.{arith}
use lib.Pow.{pow_mono, pow_pos}
use Rattle.confidences.specs.Values.{front_of}
use Rattle.value_readings.specs.LeafLaws.{leaf-round_leaves, next_room, next_whole, together_some}
use Rattle.value_readings.specs.PollLaws.{poll_first, poll_last, poll_sums, polled_few, polled_from, polled_none, polled_then, round_spent}
use Rattle.value_readings.specs.Polls.{Next, Polled, leaf, together}
use Rattle.value_readings.proofs.rounds.leaf_round.Goals as goal

pub size-requires : goal.size-requires
size-requires c =
    omega (arith, c.requires.few)

pub overflow_mul-directions : goal.overflow_mul-directions
overflow_mul-directions c =
    record { fits = omega (arith, c.size.ensures, pow_mono {i = c.args.m} {j = 9} c.requires.few) }

pub overflow_sub-directions : goal.overflow_sub-directions
overflow_sub-directions c =
    omega (arith, c.size.ensures, pow_pos c.args.m)

pub clear-requires : goal.clear-requires
clear-requires c =
    (c.requires.few, c.requires.room)

pub loop-used-init : goal.loop-used-init
loop-used-init c =
    (omega arith, (λ h. absurd (omega arith)), polled_none (poll_first (leaf c.args.m) c.requires c.clear.ensures).poll)

pub overflow_sub-left : goal.overflow_sub-left
overflow_sub-left c =
    c.loop-used.invariant.0

pub shape_of-area-then-left-used : goal.shape_of-area-then-left-used
shape_of-area-then-left-used c =
    let heard : Polled c.args.m (leaf c.args.m) 0 c.loop-used.used c.args.area.now c.loop-used.area c.loop-used.abstained = polled_from c.requires c.clear.ensures c.loop-used.invariant.2 in
    (heard).front.long

pub returns-then-left-used : goal.returns-then-left-used
returns-then-left-used c =
    let directions : 2 * c.size.result - 1 ≡ 2 ^ suc c.args.m - 1 = omega (arith, c.size.ensures) in
    let next : Next c.args.m c.loop-used.used = record { more = omega (arith, c.loop-used-test.true, directions); whole = c.loop-used.invariant.1 } in
    let heard : Polled c.args.m (leaf c.args.m) 0 c.loop-used.used c.args.area.now c.loop-used.area c.loop-used.abstained = polled_from c.requires c.clear.ensures c.loop-used.invariant.2 in
    round_spent
    (omega (
      arith,
      c.if-left-used.true,
      c.next_few-few.ensures,
      next_room c.args.m c.loop-used.used c.requires.some (next),
      leaf-round_leaves c.args.m (front_of (2 ^ suc c.args.m) c.args.area.now),
    )) (heard).front.long

pub hear_few-abstained-requires : goal.hear_few-abstained-requires
hear_few-abstained-requires c =
    let directions : 2 * c.size.result - 1 ≡ 2 ^ suc c.args.m - 1 = omega (arith, c.size.ensures) in
    let next : Next c.args.m c.loop-used.used = record { more = omega (arith, c.loop-used-test.true, directions); whole = c.loop-used.invariant.1 } in
    record { poll = c.loop-used.invariant.2.poll; next = next }

pub overflow_add-abstained : goal.overflow_add-abstained
overflow_add-abstained c =
    record { fits = omega (arith, polled_few c.hear_few-abstained.ensures, polled_few c.loop-used.invariant.2) }

pub overflow_add-used : goal.overflow_add-used
overflow_add-used c =
    let directions : 2 * c.size.result - 1 ≡ 2 ^ suc c.args.m - 1 = omega (arith, c.size.ensures) in
    let next : Next c.args.m c.loop-used.used = record { more = omega (arith, c.loop-used-test.true, directions); whole = c.loop-used.invariant.1 } in
    let after : c.loop-used.used + c.next_few-few.result
    ≤ 2 ^ suc c.args.m - 1 = omega (arith, c.next_few-few.ensures, next_room c.args.m c.loop-used.used c.requires.some (next)) in
    record { fits = omega (arith, after, pow_mono {i = suc c.args.m} {j = 10} (omega (arith, c.requires.few))) }

pub loop-used-smaller : goal.loop-used-smaller
loop-used-smaller c =
    omega (arith, c.loop-used-test.true, c.next_few-few.ensures, together_some c.loop-used.used)

pub loop-used-preserved : goal.loop-used-preserved
loop-used-preserved c =
    let r = (poll_first (leaf c.args.m) c.requires c.clear.ensures).poll.round in
    let few : c.next_few-few.result ≡ together c.loop-used.used = c.next_few-few.ensures in (
      omega (arith, c.if-left-used.false, c.loop-used.invariant.0),
      rw few (next_whole c.loop-used.used c.loop-used.invariant.1),
      rw few (polled_then r c.loop-used.invariant.2 c.hear_few-abstained.ensures),
    )

pub conclude-requires : goal.conclude-requires
conclude-requires c =
    let p = c.loop-used.invariant.2.poll in (p.round.few, p.round.room, poll_sums p)

pub shape_of-area : goal.shape_of-area
shape_of-area c =
    let heard : Polled c.args.m (leaf c.args.m) 0 c.loop-used.used c.args.area.now c.loop-used.area c.loop-used.abstained = polled_from c.requires c.clear.ensures c.loop-used.invariant.2 in
    c.conclude.ensures.long ∙ (heard).front.long

pub returns : goal.returns
returns c =
    let heard : Polled c.args.m (leaf c.args.m) 0 c.loop-used.used c.args.area.now c.loop-used.area c.loop-used.abstained = polled_from c.requires c.clear.ensures c.loop-used.invariant.2 in
    let directions : 2 * c.size.result - 1 ≡ 2 ^ suc c.args.m - 1 = omega (arith, c.size.ensures) in
    let all : c.loop-used.used ≡ 2 ^ suc c.args.m - 1 = omega (arith, c.loop-used-test.false, (heard).poll.many, directions) in
    let whole = subst (λ (j : ℕ). Polled c.args.m (leaf c.args.m) 0 j c.args.area.now c.loop-used.area c.loop-used.abstained) all (heard) in
    poll_last c.requires whole (all ∙ sym (leaf-round_leaves c.args.m (front_of (2 ^ suc c.args.m) c.args.area.now))) c.loop-used.invariant.0
    c.conclude.ensures

-- `walks::walk_in` meets its contract: each turn of the loop is a step of the walk. Assumes nothing.
use Rattle.std.proofs.Common.{ℕ, Ok, add-one, ◌^◌, ◌<◌, ◌∙◌, ap, arith, length, subst}
use Rattle.tables.specs.Tables.{Slot, ours, slot_of}
use Rattle.streets.specs.declared.Plan.{Plan}
use Rattle.walks.specs.Walk.{Lent, plan_of}
use Rattle.walks.specs.WalkLaws.{Walking, starts, too_long, walks_on}
use Rattle.walks.proofs.walk_in.Goals as goal

pub loop-init : goal.loop-init
loop-init g c = record { few = omega arith; walking = starts _ _ _ _ c.begin.ensures c.no_counts.ensures }

pub loop-preserved : goal.loop-preserved
loop-preserved g c =
    let slot : Slot = slot_of ours c.args.s.profile in
    let plan : Plan = plan_of c.args.s in
    let l = c.loop in
    let lent : Lent slot (length l.block) (length l.area) = record { size = l.auto.block ∙ c.requires.size; most = omega (arith, l.auto.area, c.requires.most) } in
    let small : c.args.s.start < 2 ^ 32 = omega arith in
    let more = walks_on slot plan c.args.s.start lent small l.counter l.w (c.in-Ok-Some.is ∙ ap Ok c.in-Ok-Some.field-0-is) (omega arith) l.invariant.walking c.step.ensures.onward in
    record { few = omega arith; walking = rw add-one more }

pub returns-in-Ok-None : goal.returns-in-Ok-None
returns-in-Ok-None g c =
    let slot : Slot = slot_of ours c.args.s.profile in
    let plan : Plan = plan_of c.args.s in
    let l = c.loop in
    let lent : Lent slot (length l.block) (length l.area) = record { size = l.auto.block ∙ c.requires.size; most = omega (arith, l.auto.area, c.requires.most) } in
    let small : c.args.s.start < 2 ^ 32 = omega arith in
    walks_on slot plan c.args.s.start lent small l.counter l.w (c.in-Ok-None.is ∙ ap Ok c.in-Ok-None.field-0-is) (omega arith) l.invariant.walking c.step.ensures.onward

pub returns-in-Err : goal.returns-in-Err
returns-in-Err g c =
    let slot : Slot = slot_of ours c.args.s.profile in
    let plan : Plan = plan_of c.args.s in
    let l = c.loop in
    let lent : Lent slot (length l.block) (length l.area) = record { size = l.auto.block ∙ c.requires.size; most = omega (arith, l.auto.area, c.requires.most) } in
    let small : c.args.s.start < 2 ^ 32 = omega arith in
    walks_on slot plan c.args.s.start lent small l.counter l.w c.in-Err.is (omega arith) l.invariant.walking c.step.ensures.onward

pub returns : goal.returns
returns g c =
    let slot : Slot = slot_of ours c.args.s.profile in
    let plan : Plan = plan_of c.args.s in
    let w = c.loop.w in
    absurd (too_long slot plan c.args.s.start w (subst (λ (n : ℕ). Walking slot plan c.args.s.start n w) (omega arith) c.loop.invariant.walking))

-- The turns of `walks::walk_in`: each has sent a block.
use Rattle.std.proofs.Common.{◌≤◌}
use Rattle.tables.specs.Tables.{ours, slot_of}
use Rattle.walks.specs.Walk.{plan_of}
use Rattle.walks.specs.WalkLaws.{Walking}
use Rattle.walks.proofs.walk_in.Given as goal

abbrev pub invariant-loop : goal.invariant-loop
invariant-loop g l = record { few : l.counter ≤ 4097; walking : Walking (slot_of ours l.s.profile) (plan_of l.s) l.s.start l.counter l.w }

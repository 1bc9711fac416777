-- `projections::fours::project_fours` meets its contract: a turn writes the sums of four cosets. Assumes nothing.
use Prim.Native.Nat.{◌*◌}
use native.Mathlib.Omega.{arith}
use Rattle.words.specs.Written.{written_none, written_run, written_to}
use Rattle.direction.proofs.Members.{number_le}
use Rattle.projections.proofs.FourTurns.{FourTurn, highest_le, size_whole, block_room, two_blocks, four_value}
use Rattle.projections.proofs.fours.project_fours.Goals as goal

pub loop-k-init : goal.loop-k-init
loop-k-init c = written_none _ _ _ _

pub insert_zero-p-requires : goal.insert_zero-p-requires
insert_zero-p-requires c =
    (omega (arith, highest_le c.requires.in_fours c.requires.projects.direction), omega (arith, number_le c.requires.projects.direction))

pub project_four-requires : goal.project_four-requires
project_four-requires c =
    let turn : FourTurn c.args.m c.args.h c.args.w c.args.l (4 * c.loop-k.k) c.insert_zero-p.result = record {
      fours = c.requires.in_fours;
      direction = c.requires.projects.direction;
      number = omega (arith, c.size-n.ensures);
      whole = omega arith;
      inserted = c.insert_zero-p.ensures.0;
    } in
    let w = c.loop-k.invariant in
    two_blocks (turn) c.requires.projects c.loop-k.area w.long (λ j k. w.below j (omega arith)) _ (omega (arith, block_room (turn)))

pub loop-k-preserved : goal.loop-k-preserved
loop-k-preserved c =
    let turn : FourTurn c.args.m c.args.h c.args.w c.args.l (4 * c.loop-k.k) c.insert_zero-p.result = record {
      fours = c.requires.in_fours;
      direction = c.requires.projects.direction;
      number = omega (arith, c.size-n.ensures);
      whole = omega arith;
      inserted = c.insert_zero-p.ensures.0;
    } in
    let w = c.loop-k.invariant in
    let value = four_value (turn) c.requires.projects c.loop-k.area w.long (λ j k. w.below j (omega arith)) in
    written_to (written_run w c.project_four.ensures (omega arith) value) _ (omega arith)

pub returns : goal.returns
returns c =
    let whole = size_whole c.requires.in_fours c.requires.projects.direction in
    written_to c.loop-k.invariant _ (omega (arith, whole, c.size-n.ensures))

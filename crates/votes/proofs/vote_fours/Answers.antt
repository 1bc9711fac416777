-- `votes::vote_fours` meets its contract: a turn adds the votes of four cosets at both members. Assumes nothing.
use Prim.Native.Nat.{◌+◌, ◌*◌}
use mathlib.Core.Path.{◌≡◌}
use native.Mathlib.Omega.{arith}
use Rattle.direction.proofs.Members.{number_le}
use Rattle.cosets.specs.SetBelow.{set_none, set_all}
use Rattle.projections.proofs.FourTurns.{highest_le, size_whole}
use Rattle.votes.proofs.FourLoops.{VoteTurn, four_asks, voted_four}
use Rattle.votes.proofs.vote_fours.Goals as goal

pub loop-k-init : goal.loop-k-init
loop-k-init c = set_none _ _ _ _

pub insert_zero-p-requires : goal.insert_zero-p-requires
insert_zero-p-requires c =
    (omega (arith, highest_le c.requires.in_fours c.requires.projects.direction), omega (arith, number_le c.requires.projects.direction))

pub vote_four-requires : goal.vote_four-requires
vote_four-requires c =
    let turn : VoteTurn c.args.m c.args.h c.args.w c.args.l c.args.area.now c.size-n.result (4 * c.loop-k.k) c.insert_zero-p.result c.loop-k.area = record {
      turn = record {
        fours = c.requires.in_fours;
        direction = c.requires.projects.direction;
        number = omega (arith, c.size-n.ensures);
        whole = omega arith;
        inserted = c.insert_zero-p.ensures.0;
      };
      asks = c.requires.projects;
      tally = c.requires.tally;
      projection = c.requires.in_projection;
      size = c.size-n.ensures;
      voted = c.loop-k.invariant;
    } in
    four_asks (turn)

pub loop-k-preserved : goal.loop-k-preserved
loop-k-preserved c =
    let turn : VoteTurn c.args.m c.args.h c.args.w c.args.l c.args.area.now c.size-n.result (4 * c.loop-k.k) c.insert_zero-p.result c.loop-k.area = record {
      turn = record {
        fours = c.requires.in_fours;
        direction = c.requires.projects.direction;
        number = omega (arith, c.size-n.ensures);
        whole = omega arith;
        inserted = c.insert_zero-p.ensures.0;
      };
      asks = c.requires.projects;
      tally = c.requires.tally;
      projection = c.requires.in_projection;
      size = c.size-n.ensures;
      voted = c.loop-k.invariant;
    } in
    let e : 4 * c.loop-k.k + 4 ≡ 4 * (c.loop-k.k + 1) = omega arith in
    rw e at (voted_four (turn) c.vote_four.ensures)

pub returns : goal.returns
returns c =
    let whole = size_whole c.requires.in_fours c.requires.projects.direction in
    set_all c.requires.projects.direction c.loop-k.invariant (omega (arith, whole, c.size-n.ensures))

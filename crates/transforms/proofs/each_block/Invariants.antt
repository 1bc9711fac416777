use Rattle.std.proofs.Common.{◌≡◌, ◌-◌, List, drop, length}
use Rattle.words.specs.Butterflies.{BlocksDone}
use Rattle.words.specs.Blocks.{Keeps}
use Rattle.transforms.specs.EachBlock.{Does}
use Rattle.transforms.proofs.EachBlockLaws.{Passed}
use Rattle.transforms.proofs.each_block.Given as goal

abbrev pub invariant-loop-b : goal.invariant-loop-b
invariant-loop-b g l =
    Passed l.s (length l.initial.a) l.b
    × (drop l.b l.a ≡ drop l.b l.initial.a)
    × ((change : List g.row.T.Denot → List g.row.T.Denot) → Keeps change l.s → Does g.F.Fn l.f change → BlocksDone change l.s l.b l.initial.a l.a)

abbrev pub decreases-loop-b : goal.decreases-loop-b
decreases-loop-b g l = length l.initial.a - l.b

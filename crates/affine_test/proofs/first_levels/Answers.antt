-- `affine_test::first_levels` meets its contract. Assumes nothing.
use Rattle.std.proofs.Common.{◌&&◌, ap₂, ◌∙◌, arith}
use Rattle.code.proofs.FirstOrderLaws.{levels_three}
use Rattle.affine_test.specs.Marks.{mark_at}
use Rattle.affine_test.specs.MarkLaws.{marked_fewer}
use Rattle.affine_test.proofs.first_levels.Goals as goal

pub repeats-requires : goal.repeats-requires
repeats-requires g c = (omega arith, marked_fewer (omega arith) c.requires)

pub repeats-requires-2 : goal.repeats-requires-2
repeats-requires-2 g c = (omega arith, marked_fewer (omega arith) c.requires)

pub repeats-requires-3 : goal.repeats-requires-3
repeats-requires-3 g c = (omega arith, c.requires)

pub returns : goal.returns
returns g c =
    ap₂ ◌&&◌ (ap₂ ◌&&◌ c.repeats.ensures c.repeats-2.ensures) c.repeats-3.ensures ∙ levels_three (mark_at g.M.Mark.bit_of c.args.area.now)

-- `area::put_four` meets its contract. Assumes nothing.
use native.Mathlib.Omega.{arith}
use lib.ListN.{length-set}
use mir.Facts.{to_z-of_z}
use Rattle.words.specs.Written.{written_four}
use Rattle.area.proofs.put_four.Goals as goal

pub bounds-a-b-2 : goal.bounds-a-b-2
bounds-a-b-2 c =
    simp length-set (omega arith)

pub bounds-a-b-3 : goal.bounds-a-b-3
bounds-a-b-3 c =
    simp length-set (omega arith)

pub bounds-a-b-4 : goal.bounds-a-b-4
bounds-a-b-4 c =
    simp length-set (omega arith)

pub returns : goal.returns
returns c =
    written_four c.requires
    (to_z-of_z c.ranges.x0) (to_z-of_z c.ranges.x1) (to_z-of_z c.ranges.x2) (to_z-of_z c.ranges.x3)

pub shape_of-a : goal.shape_of-a
shape_of-a c =
    (returns c).long

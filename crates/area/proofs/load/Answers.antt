-- `area::load` meets its contract. Assumes nothing.
use Rattle.std.proofs.Common.{arith, ◌∙◌, w32, to_z-of_z}
use Rattle.words.specs.Written.{written_none, written_more}
use Rattle.area.proofs.load.Goals as goal

pub loop-i-init : goal.loop-i-init
loop-i-init c =
    written_none _ _ _ _

pub loop-i-preserved : goal.loop-i-preserved
loop-i-preserved c =
    written_more c.loop-i.invariant _ _ (omega arith) (omega (arith, c.requires)) (to_z-of_z {w = w32} (record { sfits = c.from.type_inv }) ∙ c.from.ensures)

-- `unpacking::unpack_byte` meets its contract: the loop writes the bits from the front. Assumes nothing.
use mathlib.Core.Path.{refl}
use native.Mathlib.Omega.{arith}
use Rattle.words.specs.Written.{written_none, written_more, written_to, written_all}
use Rattle.unpacking.proofs.unpack_byte.Goals as goal

pub loop-i-init : goal.loop-i-init
loop-i-init c =
    written_none 0 0 _ _

pub loop-i-preserved : goal.loop-i-preserved
loop-i-preserved c =
    written_more c.loop-i.invariant c.loop-i.i _ (omega arith) (omega arith) refl

pub returns : goal.returns
returns c =
    written_all (written_to c.loop-i.invariant 8 (omega arith)) (omega arith)

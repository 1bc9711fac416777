-- `quarter_packing::pack` meets its contract: a turn writes four quads. Assumes nothing.
use mathlib.Core.Path.{refl}
use native.Mathlib.Omega.{arith}
use Rattle.words.specs.Written.{written_none, written_run, written_to}
use Rattle.quarter_packing.proofs.SignCasts.{still_bits, still_signs}
use Rattle.quarter_packing.proofs.pack.Goals as goal

pub loop-k-init : goal.loop-k-init
loop-k-init c = written_none _ _ _ _

pub pack_four-requires : goal.pack_four-requires
pack_four-requires c = (omega arith, still_bits c.requires c.loop-k.invariant)

pub loop-k-preserved : goal.loop-k-preserved
loop-k-preserved c =
    let w = c.loop-k.invariant in
    written_to (written_run w c.pack_four.ensures refl (λ k l. still_signs c.requires w _ (omega arith))) _ (omega arith)

pub returns : goal.returns
returns c = written_to c.loop-k.invariant _ (omega (arith, c.requires.fours))

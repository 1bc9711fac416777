-- `affine::by_place` meets its contract. Assumes nothing.
use mathlib.Core.Path.{refl, ap, ◌∙◌}
use native.Mathlib.Omega.{arith}
use lib.ListN.{length}
use lib.Bits.{bit_and}
use lib.Count.{ones}
use lib.IntN.{ℤ}
use Rattle.words.specs.Sum.{tabulate}
use Rattle.words.specs.Written.{written_more, written_to, written_all}
use Rattle.area.proofs.AreaLaws.{bit_back}
use Rattle.affine.specs.Affine.{affine_at}
use Rattle.affine.specs.Blocks.{place_is}
use Rattle.affine.proofs.by_place.Goals as goal

pub loop-p-preserved : goal.loop-p-preserved
loop-p-preserved c =
    let e = place_is (ones (bit_and c.args.u c.loop-p.p)) c.parity.ensures c.requires.0 in
    written_more c.loop-p.invariant _ _ (omega arith) (omega arith) e

pub returns : goal.returns
returns c =
    let n = length c.args.a.now in
    written_all (written_to c.loop-p.invariant n (omega arith)) refl ∙ ap (λ (z : ℤ). tabulate n (affine_at c.args.u z)) (bit_back c.requires.0)

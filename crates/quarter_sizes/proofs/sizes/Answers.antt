-- `quarter_sizes::sizes` meets its contract: a turn of the loop writes the sizes of four quads. Assumes nothing.
use Prim.Native.Nat.{ℕ, ◌+◌, ◌*◌}
use mathlib.Core.Path.{◌≡◌, subst}
use native.Mathlib.Omega.{arith}
use Rattle.quarter_sizes.specs.Sized.{Sized}
use Rattle.quarter_sizes.specs.SizedLaws.{sized_none, sized_more, sized_quads}
use Rattle.quarter_sizes.proofs.sizes.Goals as goal

pub loop-k-init : goal.loop-k-init
loop-k-init c = sized_none _ _

pub size_four-requires : goal.size_four-requires
size_four-requires c = (omega arith, sized_quads c.loop-k.invariant c.requires)

pub loop-k-preserved : goal.loop-k-preserved
loop-k-preserved c =
    let e : 4 * c.loop-k.k + 4 ≡ 4 * (c.loop-k.k + 1) = omega arith in
    rw e at (sized_more c.loop-k.invariant (omega arith) c.size_four.ensures)

pub shape_of-part : goal.shape_of-part
shape_of-part c = c.loop-k.invariant.long

pub returns : goal.returns
returns c = subst (λ (n : ℕ). Sized c.args.q n c.args.part.now c.loop-k.part) (omega (arith, c.requires.fours)) c.loop-k.invariant

-- `affine::write_affine` meets its contract: four places by parity, four more, eight more, and each turn of the loop writes one block of 16.
-- Assumes nothing.
use Rattle.std.specs.Prelude.{◌*◌}
use Rattle.affine.specs.Blocks.{Affine}
use Rattle.affine.proofs.write_affine.Given as goal

abbrev pub invariant-loop-k : goal.invariant-loop-k
invariant-loop-k l = Affine l.u l.s l.n (16 * l.k) l.a

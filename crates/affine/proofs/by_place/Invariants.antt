-- `affine::by_place` meets its contract. Assumes nothing.
use lib.IntN.{pos}
use Rattle.words.specs.Written.{Written}
use Rattle.affine.specs.Affine.{affine_at}
use Rattle.affine.proofs.by_place.Given as goal

abbrev pub invariant-loop-p : goal.invariant-loop-p
invariant-loop-p l = Written (pos 0) 0 l.p (affine_at l.u l.s) l.initial.a l.a

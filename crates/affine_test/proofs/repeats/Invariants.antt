-- `affine_test::repeats` meets its contract: same is the test of the places passed. Assumes nothing.
use Rattle.std.proofs.Common.{◌≡◌}
use Rattle.code.specs.FirstOrder.{repeats_below}
use Rattle.affine_test.specs.Marks.{mark_at}
use Rattle.affine_test.proofs.repeats.Given as goal

abbrev pub invariant-loop-i : goal.invariant-loop-i
invariant-loop-i g l = l.same ≡ repeats_below (mark_at g.M.Mark.bit_of l.area) l.h l.i

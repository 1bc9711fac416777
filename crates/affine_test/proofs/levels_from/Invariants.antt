-- `affine_test::levels_from` meets its contract: the levels below k pass. Assumes nothing.
use Rattle.std.proofs.Common.{true, ◌≡◌}
use Rattle.code.specs.FirstOrder.{levels_test}
use Rattle.affine_test.specs.Marks.{mark_at}
use Rattle.affine_test.proofs.levels_from.Given as goal

abbrev pub invariant-loop-k : goal.invariant-loop-k
invariant-loop-k g l = levels_test l.k (mark_at g.M.Mark.bit_of l.area) ≡ true

-- `settled::is_low` meets its contract: low is the test of the masks passed. Assumes nothing.
use Rattle.std.proofs.Common.{◌≡◌}
use Rattle.code.specs.Code.{low_test}
use Rattle.area.specs.Area.{size_at}
use Rattle.settled.proofs.is_low.Given as goal

abbrev pub invariant-loop-p : goal.invariant-loop-p
invariant-loop-p l = l.low ≡ low_test l.r (size_at l.a) l.p

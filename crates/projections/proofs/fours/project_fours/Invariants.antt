-- `projections::fours::project_fours` meets its contract: a turn writes the sums of four cosets. Assumes nothing.
use Rattle.std.specs.Prelude.{suc, ◌+◌, ◌*◌, ◌^◌, pos}
use Rattle.words.specs.Word.{bit}
use Rattle.words.specs.Written.{Written}
use Rattle.area.specs.Area.{word_of}
use Rattle.direction.specs.Direction.{project}
use Rattle.projections.proofs.fours.project_fours.Given as goal

abbrev pub invariant-loop-k : goal.invariant-loop-k
invariant-loop-k l = Written (pos 0) (4 * 2 ^ l.m) (4 * l.k) (λ j. pos (bit (project l.m (l.w + l.l) (word_of (2 ^ suc l.m) l.initial.area)) j)) l.initial.area l.area

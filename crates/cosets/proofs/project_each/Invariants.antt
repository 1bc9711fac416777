-- `cosets::project_each` meets its contract: a turn writes the sum of the bits of one coset's members. Assumes nothing.
use Rattle.std.specs.Prelude.{suc, ◌*◌, ◌^◌, pos}
use Rattle.words.specs.Word.{bit}
use Rattle.words.specs.Written.{Written}
use Rattle.area.specs.Area.{word_of}
use Rattle.direction.specs.Direction.{project}
use Rattle.cosets.proofs.project_each.Given as goal

abbrev pub invariant-loop-q : goal.invariant-loop-q
invariant-loop-q l = Written (pos 0) (4 * 2 ^ l.m) l.q (λ j. pos (bit (project l.m l.b (word_of (2 ^ suc l.m) l.initial.area)) j)) l.initial.area l.area

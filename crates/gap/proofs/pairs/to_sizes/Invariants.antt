-- `gap::pairs::to_sizes` meets its contract. Assumes nothing.
use Rattle.std.specs.Prelude.{pos}
use Rattle.std.proofs.Common.{of_z}
use Rattle.std.specs.Int.{w32}
use Rattle.peaks.specs.Peaks.{lesser_sizes, pair_sizes}
use Rattle.peaks.specs.Searches.{Greatest}
use Rattle.words.specs.Written.{Written}
use Rattle.gap.proofs.pairs.to_sizes.Given as goal

abbrev pub invariant-loop-i : goal.invariant-loop-i
invariant-loop-i l =
    Written (pos 0) 0 l.i (λ j. pos (pair_sizes l.h l.initial.part j)) l.initial.part l.part
    × Greatest l.i (pair_sizes l.h l.initial.part) (of_z w32 l.most) × Greatest l.i (lesser_sizes l.h l.initial.part) (of_z w32 l.lower)

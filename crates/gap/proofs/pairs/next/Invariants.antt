-- `gap::pairs::next` meets its contract. Assumes nothing.
use Rattle.std.specs.Prelude.{◌≡◌, nat_abs}
use Rattle.std.proofs.Common.{of_z}
use Rattle.std.specs.Int.{w32}
use Rattle.area.specs.Area.{size_at}
use Rattle.hadamard.specs.Correlation.{count_below}
use Rattle.peaks.specs.Searches.{Greatest}
use Rattle.gap.specs.Measuring.{unlike}
use Rattle.gap.proofs.pairs.next.Given as goal

abbrev pub invariant-loop-x : goal.invariant-loop-x
invariant-loop-x l =
    (l.count ≡ count_below l.x-index (size_at l.sizes) (nat_abs l.g)) × Greatest l.x-index (unlike (nat_abs l.g) (size_at l.sizes)) (of_z w32 l.second)

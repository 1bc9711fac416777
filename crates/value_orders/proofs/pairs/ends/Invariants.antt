-- `value_orders::pairs::ends` meets its contract. Assumes nothing.
use mir.Syntax.{w32}
use mir.Val.{of_z}
use Rattle.peaks.specs.Peaks.{pair_sizes}
use Rattle.peaks.specs.Searches.{Greatest}
use Rattle.value_orders.specs.Places.{up_key, down_key}
use Rattle.value_orders.proofs.pairs.ends.Given as goal

abbrev pub invariant-loop-i : goal.invariant-loop-i
invariant-loop-i l =
    Greatest l.i (up_key (pair_sizes l.h l.part)) (of_z w32 l.last) × Greatest l.i (down_key (pair_sizes l.h l.part)) (of_z w32 l.first)

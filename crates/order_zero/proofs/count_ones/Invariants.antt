-- `order_zero::count_ones` meets its contract: the loop counts the ones so far. Assumes nothing.
use Rattle.std.proofs.Common.{◌≡◌, ◌≤◌}
use Rattle.words.specs.Sum.{sum_below}
use Rattle.words.specs.Word.{bit}
use Rattle.area.specs.Area.{word_of}
use Rattle.order_zero.proofs.count_ones.Given as goal

abbrev pub invariant-loop-x : goal.invariant-loop-x
invariant-loop-x l =
    (l.k ≡ sum_below l.x-index (bit (word_of l.n l.area))) × (l.k ≤ l.x-index)

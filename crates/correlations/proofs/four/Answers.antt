-- `correlations::four` meets its contract: all four numbers are read before the first is set. Assumes nothing.
use Rattle.area.specs.Numbers.{sum_fits, difference_fits}
use Rattle.correlations.specs.Fours.{entry_half, plus_half, minus_half, four_summed}
use Rattle.correlations.proofs.four.Goals as goal

pub overflow_add-s : goal.overflow_add-s
overflow_add-s c =
    let e = c.requires in sum_fits (entry_half e 0) (entry_half e 1)

pub overflow_sub-d : goal.overflow_sub-d
overflow_sub-d c =
    let e = c.requires in difference_fits (entry_half e 0) (entry_half e 1)

pub overflow_add-t : goal.overflow_add-t
overflow_add-t c =
    let e = c.requires in sum_fits (entry_half e 2) (entry_half e 3)

pub overflow_sub-e : goal.overflow_sub-e
overflow_sub-e c =
    let e = c.requires in difference_fits (entry_half e 2) (entry_half e 3)

pub overflow_add-a : goal.overflow_add-a
overflow_add-a c =
    let e = c.requires in sum_fits (plus_half e 0 1) (plus_half e 2 3)

pub overflow_add-a-2 : goal.overflow_add-a-2
overflow_add-a-2 c =
    let e = c.requires in sum_fits (minus_half e 0 1) (minus_half e 2 3)

pub overflow_sub-a : goal.overflow_sub-a
overflow_sub-a c =
    let e = c.requires in difference_fits (plus_half e 0 1) (plus_half e 2 3)

pub overflow_sub-a-2 : goal.overflow_sub-a-2
overflow_sub-a-2 c =
    let e = c.requires in difference_fits (minus_half e 0 1) (minus_half e 2 3)

pub returns : goal.returns
returns c =
    let e = c.requires in four_summed e

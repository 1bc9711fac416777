-- `correlations::twice::two_butterflies` meets its contract: a turn does one column, all of it read before the first is set. Assumes nothing.
use native.Mathlib.Omega.{arith}
use lib.IntN.{pos}
use Rattle.words.specs.Butterflies.{Entries}
use Rattle.area.specs.Numbers.{sum_fits, difference_fits}
use Rattle.hadamard.specs.Transform.{sums}
use Rattle.correlations.specs.Fours.{entry_half, plus_half, minus_half}
use Rattle.correlations.specs.Columns.{column, columns_none, columns_all, column_entries, column_summed}
use Rattle.correlations.proofs.twice.two_butterflies.Goals as goal

pub loop-i-init : goal.loop-i-init
loop-i-init c =
    columns_none _ _ _

pub overflow_add-s : goal.overflow_add-s
overflow_add-s c =
    let read : Entries sums 4 2 (column (pos 0) c.args.h c.loop-i.i c.loop-i.a) = column_entries c.loop-i.invariant (omega arith) c.requires in
    sum_fits (entry_half (read) 0) (entry_half (read) 1)

pub overflow_sub-d : goal.overflow_sub-d
overflow_sub-d c =
    let read : Entries sums 4 2 (column (pos 0) c.args.h c.loop-i.i c.loop-i.a) = column_entries c.loop-i.invariant (omega arith) c.requires in
    difference_fits (entry_half (read) 0) (entry_half (read) 1)

pub overflow_add-t : goal.overflow_add-t
overflow_add-t c =
    let read : Entries sums 4 2 (column (pos 0) c.args.h c.loop-i.i c.loop-i.a) = column_entries c.loop-i.invariant (omega arith) c.requires in
    sum_fits (entry_half (read) 2) (entry_half (read) 3)

pub overflow_sub-e : goal.overflow_sub-e
overflow_sub-e c =
    let read : Entries sums 4 2 (column (pos 0) c.args.h c.loop-i.i c.loop-i.a) = column_entries c.loop-i.invariant (omega arith) c.requires in
    difference_fits (entry_half (read) 2) (entry_half (read) 3)

pub overflow_add-a : goal.overflow_add-a
overflow_add-a c =
    let read : Entries sums 4 2 (column (pos 0) c.args.h c.loop-i.i c.loop-i.a) = column_entries c.loop-i.invariant (omega arith) c.requires in
    sum_fits (plus_half (read) 0 1) (plus_half (read) 2 3)

pub overflow_add-a-in-loop-i : goal.overflow_add-a-in-loop-i
overflow_add-a-in-loop-i c =
    let read : Entries sums 4 2 (column (pos 0) c.args.h c.loop-i.i c.loop-i.a) = column_entries c.loop-i.invariant (omega arith) c.requires in
    sum_fits (minus_half (read) 0 1) (minus_half (read) 2 3)

pub overflow_sub-a : goal.overflow_sub-a
overflow_sub-a c =
    let read : Entries sums 4 2 (column (pos 0) c.args.h c.loop-i.i c.loop-i.a) = column_entries c.loop-i.invariant (omega arith) c.requires in
    difference_fits (plus_half (read) 0 1) (plus_half (read) 2 3)

pub overflow_sub-a-in-loop-i : goal.overflow_sub-a-in-loop-i
overflow_sub-a-in-loop-i c =
    let read : Entries sums 4 2 (column (pos 0) c.args.h c.loop-i.i c.loop-i.a) = column_entries c.loop-i.invariant (omega arith) c.requires in
    difference_fits (minus_half (read) 0 1) (minus_half (read) 2 3)

pub loop-i-preserved : goal.loop-i-preserved
loop-i-preserved c =
    column_summed c.loop-i.invariant (omega arith) c.requires

pub returns : goal.returns
returns c =
    columns_all sums c.loop-i.invariant (omega arith) c.requires.size

-- `load::captures::draw_records` meets its contract: the loop writes a record a turn. Assumes nothing.
use Rattle.tables.specs.Tables.{some}
use Rattle.load.specs.CaptureLaws.{Recorded}
use Rattle.load.proofs.captures.draw_records.Given as goal

abbrev pub invariant-loop-i : goal.invariant-loop-i
invariant-loop-i l =
    Recorded (some l.entry) l.number l.asked l.start l.blocks l.initial.out l.out l.state l.short l.i

-- The turns of `programs::list_all`: they are a run, whose bytes were read and whose text was written.
use Rattle.std.proofs.Common.{◌≤◌, length}
use Rattle.readers.specs.Readers.{lines_for}
use Rattle.programs.specs.Program.{Moved}
use Rattle.programs.specs.ProgramLaws.{Running}
use Rattle.programs.proofs.list_all.Given as goal

abbrev pub invariant-loop-turns : goal.invariant-loop-turns
invariant-loop-turns g l = record {
  within : l.s.held ≤ length l.buffer;
  running : Running l.table (lines_for l.reader) l.turns l.s l.buffer;
  moved : Moved g.R.Read.remaining g.W.Write.contents l.initial.from l.from l.initial.to l.to running.input running.text l.s.last running.sent;
}

abbrev pub decreases-loop-turns : goal.decreases-loop-turns
decreases-loop-turns g l = l.turns

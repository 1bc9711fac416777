-- The reads of `turns::read_full`: the bytes that came stand at the front of the buffer, and fewer are left to come.
use Rattle.std.proofs.Common.{◌≡◌, ◌≤◌, ◌-◌, false, length, take}
use Rattle.std.specs.Io.KnownBytes.{Consumes}
use Rattle.turns.proofs.read_full.Given as goal

abbrev pub invariant-loop-held : goal.invariant-loop-held
invariant-loop-held g l = record {
  within : l.held ≤ length l.buffer;
  taken : Consumes (g.R.Read.remaining l.initial.from.inner) (g.R.Read.remaining l.from.inner) (take l.held l.buffer);
  failing : l.from.failed ≡ false → l.initial.from.failed ≡ false;
}

abbrev pub decreases-loop-held : goal.decreases-loop-held
decreases-loop-held g l = length l.buffer - l.held

-- `block_peak::is_alone` meets its contract. Assumes nothing.
use mathlib.Core.Path.{refl}
use native.Mathlib.Omega.{arith}
use borrow.Author.Tests.{lt-ltb, le-ltb}
use Rattle.peaks.specs.Stored.{zero_read}
use Rattle.block_peak.proofs.is_alone.Goals as goal

pub returns-then-h-g : goal.returns-then-h-g
returns-then-h-g c =
    let a = c.args in rw (lt-ltb a.h a.g c.if-h-g.true) refl

pub returns : goal.returns
returns c =
    rw (le-ltb c.args.h c.args.g (omega arith), zero_read c.ranges.x, zero_read c.ranges.y, c.count_of.ensures) refl

-- `turns::read_full` meets its contract. Assumes nothing.
use Rattle.std.proofs.Common.{take-add}
use Rattle.std.proofs.KnownBytes.{Consumes-trans}
use Rattle.turns.proofs.read_full.Goals as goal

pub loop-held-preserved : goal.loop-held-preserved
loop-held-preserved g c =
    let old = c.loop-held.invariant in
    let new = c.read_more-n.ensures in
    record {
      within = new.came.within;
      taken = rw (take-add c.loop-held.held c.read_more-n.result c.read_more-n.new.buffer, new.came.kept)
          (Consumes-trans (g.R.Read.remaining c.args.from.now.inner) (g.R.Read.remaining c.loop-held.from.inner) (g.R.Read.remaining c.read_more-n.new.from.inner) _ _ old.taken new.taken);
      failing = λ e. old.failing (new.failing e);
    }

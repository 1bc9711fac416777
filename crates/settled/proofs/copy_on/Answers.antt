-- `settled::copy_on` meets its contract. Assumes nothing.
use Rattle.std.proofs.Common.{arith, ap, ◌∙◌, pos, ℕ, ◌+◌}
use Rattle.area.specs.Area.{at}
use Rattle.settled.proofs.copy_on.Goals as goal

pub returns : goal.returns
returns c =
    let e = c.copy_within.ensures in
    record {
      long = e.len;
      within = λ p l. e.by_index.0 (c.args.n + p) (pos 0) (omega arith) (omega arith) ∙ ap (λ (i : ℕ). at c.args.area.now i) (omega arith);
      below = λ p l. e.by_index.1 p (pos 0) l;
      above = λ p l. e.by_index.2 p (pos 0) (omega arith);
    }

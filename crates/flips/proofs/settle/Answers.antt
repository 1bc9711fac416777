-- `flips::settle` meets its contract. Assumes nothing.
use Prim.Native.Nat.{ℕ}
use mathlib.Core.Path.{sym, ap, ◌∙◌}
use mathlib.Core.Bool.{Bool, cond, false≢true}
use borrow.Author.Tests.{eqb-true}
use Rattle.told.specs.declared.Noise.TheVariants.{Unsettled}
use Rattle.told.specs.Told.{Verdict, as_accepted, as_refused}
use Rattle.flips.proofs.settle.Goals as goal

-- the answer by the test
abbrev answer : ℕ → ℕ → Bool → Verdict
answer k used t = cond t (as_accepted k used) (as_refused Unsettled k used)

pub returns-then-holds_codeword : goal.returns-then-holds_codeword
returns-then-holds_codeword c =
    let t = c.holds_codeword.ensures in
    record { tested = ap (answer _ _) (sym c.if-holds_codeword.true ∙ t.answer); same = t.kept; first = eqb-true _ _ }

pub returns : goal.returns
returns c =
    let t = c.holds_codeword.ensures in
    let d = c.refused.ensures in
    record { tested = d.0 ∙ ap (answer _ _) (sym c.if-holds_codeword.false ∙ t.answer); same = t.kept; first = λ q. absurd (false≢true (sym d.1 ∙ q)) }

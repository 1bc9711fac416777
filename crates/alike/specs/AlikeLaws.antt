-- Buffers of the right sizes, as the rule asks for them. Assumes nothing.
use Rattle.std.specs.Prelude.{ℕ, List, length, ℤ}
use Rattle.words.specs.Word.{IsWord}
use Rattle.rule.specs.RightSizes.{RightSizes}
use Rattle.alike.specs.Alike.{Fit}

pub sizes : {m : ℕ} {w out : List ℕ} {area : List ℤ} → IsWord m w → Fit m out area → RightSizes m w (length out) (length area)
sizes word fit = record { input = word; output = fit.output; lent = fit.lent }

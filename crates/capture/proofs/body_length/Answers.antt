-- `capture::body_length` meets its contract. Assumes nothing.
use mathlib.Core.Path.{sym, ap, ◌∙◌}
use native.Mathlib.Omega.{arith}
use Rattle.tables.specs.Tables.{Slot, is_there}
use Prim.Native.Nat.{◌/◌}
use Rattle.capture.specs.Capture.{word_size}
use Rattle.capture.specs.Cases.{cut_body, unknown_body, known_body}
use Rattle.capture.proofs.body_length.Goals as goal

pub returns-then-head-lt5 : goal.returns-then-head-lt5
returns-then-head-lt5 c =
    (cut_body _ _ (omega arith), omega arith)

pub returns-in-None : goal.returns-in-None
returns-in-None c =
    (unknown_body _ _ (omega arith) (ap is_there c.in-None.is), omega arith)

pub returns-in-Some : goal.returns-in-Some
returns-in-Some c =
    (rw c.word_size.ensures.0 (ap (λ (x : Slot). word_size x / 8) (sym c.in-Some.is) ∙ known_body _ _ (omega arith) (ap is_there c.in-Some.is)), omega arith)

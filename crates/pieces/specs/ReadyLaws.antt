-- Whether what stands at the start of a part can be listed. Assumes nothing.
use Rattle.std.specs.Prelude.{ℕ, ◌+◌, ◌*◌, ◌≤◌, ◌<◌, ◌≡◌, Bool, true, false, List, leb, length}
use Rattle.std.proofs.Common.{arith, sym, ◌∙◌, leb-true, leb-false}
use Rattle.std.proofs.lemmas.Bool.{false≢true}
use Rattle.tables.specs.Tables.{Slot}
use Rattle.capture.specs.Capture.{body_length}
use Rattle.pieces.specs.Steps.{Readiness}

module _ (slot : Slot) (part : List ℕ) (last : Bool) {room area : ℕ} where
  pub no_room : room < 268 → Readiness slot part last room area false
  no_room h = record {
    can = λ e. absurd (false≢true e);
    cannot = λ e. record { goes_on = λ a b. absurd (omega arith); short = λ a b. absurd (omega arith) };
  }

  pub no_area : area < 64 * body_length slot part → Readiness slot part last room area false
  no_area h = record {
    can = λ e. absurd (false≢true e);
    cannot = λ e. record { goes_on = λ a b. absurd (omega arith); short = λ a b. absurd (omega arith) };
  }

  module _ (a : 268 ≤ room) (b : 64 * body_length slot part ≤ area) where
    pub ready_last : last ≡ true → Readiness slot part last room area true
    ready_last e = record { can = λ z. record { line = a; lent = b; there = λ f. absurd (false≢true (sym f ∙ e)) }; cannot = λ z. absurd (false≢true (sym z)) }

    -- the input goes on: the record has to be there
    pub ready_there : last ≡ false → Readiness slot part last room area (leb (5 + body_length slot part) (length part))
    ready_there e = record {
      can = λ z. record { line = a; lent = b; there = λ f. leb-true _ _ z };
      cannot = λ z. record { goes_on = λ x y. e; short = λ x y. leb-false _ _ z };
    }

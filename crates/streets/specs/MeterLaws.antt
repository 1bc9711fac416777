-- Who sends next, by the street: the code's search and its returns. Assumes nothing.
use Rattle.streets.specs.Street.{Meter, Nobody}
use Rattle.std.specs.Prelude.{ℕ, ◌+◌, ◌≤◌, ◌<◌, ◌≡◌, Bool, true, false, not, List, eqb, leb, Option, Some, None}
use Rattle.std.proofs.Math.Numerals.{add-one}
use Rattle.std.proofs.Common.{arith, ◌∙◌}
use borrow.Author.Tests.{le-leb, le-ltb, leb-true, lt-leb, lt-ltb}
use Rattle.words.specs.Search.{First, first_where_lem, where_first}
use Rattle.words.specs.SumLaws.{both_true}
use Rattle.words.specs.Word.{bit}
use Rattle.streets.specs.State.{next_due, sender_of, waits_from}
use Rattle.streets.specs.declared.Plan.{Plan}
use Rattle.streets.specs.declared.Street.{Street}

pub before_from : (d from i : ℕ) → i < from → false ≡ waits_from d from i
unfolding waits_from
before_from d from i h = rw (lt-leb from i h)

pub from_on : (d from i : ℕ) → from ≤ i → not (eqb d 0) ≡ waits_from d from i
unfolding waits_from
from_on d from i h = rw (le-leb from i h)

-- meter i is to send
abbrev pub is_due : List ℕ → ℕ → Bool
is_due due i = not (eqb (bit due i) 0)

-- ---- the search

module _ (due : List ℕ) (meters from : ℕ) where
  abbrev pub Due : ℕ → Type 0
  Due i = First meters (λ q. waits_from (bit due q) from q) i

  pub due_is : {i : ℕ} → Due i → i ≡ next_due due meters from
  unfolding next_due
  due_is h = first_where_lem h

  pub due_first : Due (next_due due meters from)
  unfolding next_due
  due_first = where_first meters (λ q. waits_from (bit due q) from q)

  module _ {w : ℕ} (h : Due w) where
    -- those it passed over, those after it where it found none, and the one it found
    pub due_skips : (i : ℕ) → from ≤ i → i < w → is_due due i ≡ false
    due_skips i a b = from_on (bit due i) from i a ∙ h.before i b

    pub due_none : meters ≤ w → (i : ℕ) → from ≤ i → i < meters → is_due due i ≡ false
    due_none o i a b = due_skips i a (omega arith)

    pub due_stands : w < meters → (from ≤ w) × (is_due due w ≡ true)
    unfolding waits_from
    due_stands l = let b = both_true (leb from w) (is_due due w) (h.found l) in (leb-true from w b.0, b.1)

some_is : {i j : ℕ} → Some i ≡ Some j → i ≡ j
some_is e = cc

-- what the code's search gives: the first that is to send, or none
pub record Found (due : List ℕ) (meters from : ℕ) (a : Option ℕ) : Type 0 where
  pub first : (i : ℕ) → a ≡ Some i → (i ≡ next_due due meters from) × (i < meters)
  pub none : a ≡ None → meters ≤ next_due due meters from

module _ (due : List ℕ) (meters from : ℕ) where
  pub due_found : {i : ℕ} → Due due meters from i → i < meters → Found due meters from (Some i)
  due_found {i} h l = record { first = λ j e. rw (← some_is e) (due_is due meters from h, l); none = λ e. absurd (cc) }

  pub due_missing : Due due meters from meters → Found due meters from None
  due_missing h = record { first = λ j e. absurd (cc); none = λ e. omega (arith, due_is due meters from h) }

-- ---- who sends

module _ (plan : Plan) (s : Street) {i : ℕ} (e : i ≡ next_due s.due plan.meters s.at) where
  pub sends_now : i < plan.meters → Meter i s.turn ≡ sender_of plan s
  unfolding sender_of
  sends_now h = rw (← e, lt-ltb i plan.meters h)

  module _ (over : plan.meters ≤ i) where
    pub last_turn : plan.retries ≤ s.turn → Nobody ≡ sender_of plan s
    unfolding sender_of
    last_turn h = rw (← e, le-ltb i plan.meters over, le-ltb s.turn plan.retries h)

    module _ (more : s.turn < plan.retries) {j : ℕ} (f : j ≡ next_due s.due plan.meters 0) where
      pub sends_again : j < plan.meters → Meter j (s.turn + 1) ≡ sender_of plan s
      unfolding sender_of
      sends_again h = rw (← e, le-ltb i plan.meters over, lt-ltb s.turn plan.retries more, ← f, lt-ltb j plan.meters h, add-one s.turn)

      pub none_refused : plan.meters ≤ j → Nobody ≡ sender_of plan s
      unfolding sender_of
      none_refused h = rw (← e, le-ltb i plan.meters over, lt-ltb s.turn plan.retries more, ← f, le-ltb j plan.meters h)

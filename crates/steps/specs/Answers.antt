-- What the code answers, against the outcome of a reading under a leaf limit. Assumes nothing.
use Rattle.std.specs.Prelude.{ℕ, ◌≤◌, ◌<◌, ◌≡◌, refl, Bool, true, false, cond, List, ltb, Option, None, Some, Ok, Err}
use Rattle.std.proofs.Common.{arith, sym, subst, ◌∙◌, ltb-true, ltb-false, ne_eqb}
use Rattle.rule.specs.Reading.{Outcome, abstains, accepted, refused, leaves_of}
use Rattle.rule.specs.Decoding.{limited}
use Rattle.rule.proofs.DecodingLaws.{limited_cases}
use Rattle.told.specs.Told.{noise_number, numbers_of, Verdict, numbers_in}
use Rattle.told.specs.ToldLaws.{noise_number_lem}
use Rattle.told.specs.declared.Accepted.{Accepted}
use Rattle.told.specs.declared.Unread.{Unread}
use Rattle.steps.specs.Steps.{count_in, count_of, done}
use Rattle.steps.specs.declared.Count.{Count}

-- ---- the answer and the outcome of a reading

-- no refusal has the number 0
abbrev pub Numbered : Outcome → Type 0
Numbered (accepted d k l) = Unit {0}
Numbered (refused e k l) = 0 < e

-- nor 12, where no leaf limit stops the reading
abbrev pub Unlimited : Outcome → Type 0
Unlimited (accepted d k l) = Unit {0}
Unlimited (refused e k l) = (0 < e) × (e ≡ 12 → ⊥)

unlimited_numbered : (o : Outcome) → Unlimited o → Numbered o
unlimited_numbered (accepted d k l) h = tt
unlimited_numbered (refused e k l) h = h.0

pub limited_numbered : (leaves : ℕ) (o : Outcome) → Unlimited o → Numbered (limited leaves o)
limited_numbered leaves o h = limited_cases leaves o Numbered (λ l. omega arith) (λ l. unlimited_numbered o h)

-- an answer is accepted where the outcome is, and refused where it is, with the same numbers
pub by_answer : (P : Verdict → Outcome → Type 0)
    → ((d : List ℕ) (w : Accepted) → P (Ok w) (accepted d w.rounds w.leaves))
    → ((u : Unread) → P (Err u) (refused (noise_number u.why) u.rounds u.leaves))
    → (a : Verdict) (o : Outcome) → Numbered o → numbers_in a ≡ numbers_of o → P a o
by_answer P one two (Ok w) (accepted d i j) h e =
    let z : accepted d w.rounds w.leaves ≡ accepted d i j = cc in subst (P (Ok w)) z (one d w)
by_answer P one two (Ok w) (refused n i j) h e = let z : 0 ≡ n = cc in absurd (omega arith)
by_answer P one two (Err u) (accepted d i j) h e =
    let z : noise_number u.why ≡ 0 = cc in absurd (omega (arith, noise_number_lem u.why))
by_answer P one two (Err u) (refused n i j) h e =
    let z : refused (noise_number u.why) u.rounds u.leaves ≡ refused n i j = cc in subst (P (Err u)) z (two u)

-- ---- counts

unlimited_count : (o : Outcome) → Unlimited o → count_in (numbers_of o) ≡ done (leaves_of o) (abstains o)
unlimited_count (accepted d k l) h = refl
unlimited_count (refused e k l) h = rw (ne_eqb e 12 h.1, ne_eqb e 0 (λ z. omega arith))

-- the count that a direction brings
pub count_is : (left : ℕ) (o : Outcome) → Unlimited o → count_in (numbers_of (limited left o)) ≡ count_of left (leaves_of o) (abstains o)
count_is left o h = go (ltb left (leaves_of o))
  where
    go : (t : Bool) → count_in (numbers_of (cond t (refused 12 0 left) o)) ≡ cond t None (done (leaves_of o) (abstains o))
    go true = refl
    go false = unlimited_count o h

module _ (left n a : ℕ) {count : Option Count} (e : count ≡ count_of left n a) where
  -- a count that was made is within what was left
  pub counted : (d : Count) → count ≡ Some d → (d.leaves ≡ n) × (n ≤ left) × (d.abstained ≡ a)
  counted d f = go (ltb left n) refl (sym f ∙ e)
    where
      go : (t : Bool) → ltb left n ≡ t → Some d ≡ cond t None (done n a) → (d.leaves ≡ n) × (n ≤ left) × (d.abstained ≡ a)
      go true q g = let z : ◌≡◌ {A = ℕ} 0 1 = cc in absurd (omega arith)
      go false q g = (cc, ltb-false left n q, cc)

  pub spent : count ≡ None → left < n
  spent f = go (ltb left n) refl (sym f ∙ e)
    where
      go : (t : Bool) → ltb left n ≡ t → None ≡ cond t None (done n a) → left < n
      go true q g = ltb-true left n q
      go false q g = let z : ◌≡◌ {A = ℕ} 0 1 = cc in absurd (omega arith)

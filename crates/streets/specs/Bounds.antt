-- How many blocks a street sends, and who sends no more. Assumes nothing.
use Rattle.std.specs.Prelude.{ℕ, suc, ◌+◌, ◌*◌, ◌≤◌, ◌<◌, ◌≡◌, ◌≢◌, Bool, false, not, ◌&&◌, List, [], ◌∷◌, eqb, ltb, length, set}
use Rattle.std.proofs.Common.{suc-mul, arith, ◌∙◌, subst}
use Rattle.std.proofs.Math.Decide.{dec_lt}
use Rattle.std.proofs.Math.Path.{refl, sym}
use Rattle.std.proofs.Math.Bool.{true}
use borrow.Author.Tests.{eq-eqb, eqb-false, eqb-true, le-ltb, lt-ltb, ne_eqb}
use Rattle.words.specs.Word.{indicator}
use Rattle.streets.specs.Street.{Step, count_steps, is_refused, some_step}
use Rattle.streets.specs.MeterLaws.{is_due}
use Rattle.streets.specs.Standing.{new_due, same_due}
use Rattle.streets.specs.declared.Plan.{Plan}

-- the blocks that meter i sent
abbrev pub sent_by : List Step → ℕ → ℕ
sent_by l i = count_steps (λ s. eqb s.meter i) l

-- one of them was accepted, right or as another codeword
abbrev pub accepted_of : List Step → ℕ → Bool
accepted_of l i = some_step (λ s. eqb s.meter i && not (is_refused s.answer)) l

-- in turn `turn`, with the meters below `at` past
pub record Bounded (plan : Plan) (l : List Step) (turn at : ℕ) (due : List ℕ) : Type 0 where
  pub within : at ≤ plan.meters
  pub few : length l ≤ turn * plan.meters + at
  pub each : (i : ℕ) → sent_by l i ≤ turn + indicator (ltb i at)
  pub quiet : (i : ℕ) → is_due due i ≡ true → accepted_of l i ≡ false

pub one_most : (b : Bool) → indicator b ≤ 1
one_most true = omega arith
one_most false = omega arith

-- of the meter w, or of another
by_meter : (w i : ℕ) (P : ℕ → Type 0) → P w → (w ≢ i → P i) → P i
by_meter w i P same other = go (eqb w i) refl
  where
    go : (b : Bool) → eqb w i ≡ b → P i
    go true e = subst P (eqb-true w i e) same
    go false e = other (eqb-false w i e)

module _ (plan : Plan) where
  pub bounded_first : (due : List ℕ) → Bounded plan [] 0 0 due
  unfolding count_steps some_step
  bounded_first due = record { within = omega arith; few = omega arith; each = λ i. omega arith; quiet = λ i e. refl }

  module _ {l : List Step} {turn at : ℕ} {due : List ℕ} (b : Bounded plan l turn at due) where
    pub bounded_over : Bounded plan l (suc turn) 0 due
    bounded_over = record {
      within = omega arith;
      few = omega (arith, b.few, b.within, suc-mul turn plan.meters);
      each = λ i. omega (arith, b.each i, one_most (ltb i at));
      quiet = b.quiet;
    }

    module _ (x : Step) (from : at ≤ x.meter) (m : x.meter < plan.meters) (room : x.meter < length due) (is : is_due due x.meter ≡ true) where
      abbrev w : ℕ
      w = x.meter

      abbrev due' : List ℕ
      due' = set due w (indicator (is_refused x.answer))

      each_one : (i : ℕ) → sent_by (x ∷ l) i ≤ turn + indicator (ltb i (suc w))
      unfolding count_steps
      each_one i = by_meter w i (λ i. sent_by (x ∷ l) i ≤ turn + indicator (ltb i (suc w)))
          (rw (eq-eqb w w refl, lt-ltb w (suc w) (omega arith)) (omega (arith, rw (le-ltb w at from) at (b.each w))))
          (λ k. rw (ne_eqb w i k) (elim (dec_lt i at) [
            | yes h ↦ rw (lt-ltb i (suc w) (omega arith)) (omega (arith, rw (lt-ltb i at h) at (b.each i)))
            | no h ↦ omega (arith, rw (le-ltb i at (omega arith)) at (b.each i))
          ]))

      quiet_one : (i : ℕ) → is_due due' i ≡ true → accepted_of (x ∷ l) i ≡ false
      unfolding some_step
      quiet_one i = by_meter w i (λ i. is_due due' i ≡ true → accepted_of (x ∷ l) i ≡ false)
          (λ e. rw (eq-eqb w w refl, b.quiet w is, sym (new_due due x room) ∙ e))
          (λ k e. rw (ne_eqb w i k) (b.quiet i (sym (same_due due x i k) ∙ e)))

      pub bounded_sent : Bounded plan (x ∷ l) turn (suc w) due'
      bounded_sent = record { within = m; few = omega (arith, b.few); each = each_one; quiet = quiet_one }

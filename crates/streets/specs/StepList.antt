-- Lists of steps: what one more step changes. Assumes nothing.
use Prim.Native.Nat.{ℕ, zero, suc, ◌≤◌}
use Rattle.std.proofs.Common.{arith, sym}
use Rattle.std.specs.Prelude.{◌≡◌, ◌≢◌, Bool, true, false, ◌||◌, List, [], ◌∷◌, eqb}
use Rattle.std.proofs.Math.Path.{refl}
use Rattle.std.proofs.lemmas.Bool.{false≢true}
use Rattle.std.proofs.Math.Bool.{and-false, or-false}
use borrow.Author.Tests.{eq-eqb, ne_eqb}
use Rattle.streets.specs.Street.{Step, is_at, is_refused, refused_at, sends_in, sent_at, some_step, waits_in}

both_false : (x y : Bool) → x || y ≡ false → (x ≡ false) × (y ≡ false)
both_false true y e = absurd (false≢true (sym e))
both_false false y e = (refl, e)

-- who has not sent was not refused
pub not_refused : (l : List Step) (k i : ℕ) → sent_at l k i ≡ false → refused_at l k i ≡ false
unfolding some_step
not_refused [] k i e = refl
not_refused (x ∷ l) k i e = let b = both_false (is_at k i x) (sent_at l k i) e in rw b.0 (not_refused l k i b.1)

-- one step more
module _ (x : Step) (l : List Step) where
  pub sent_here : sent_at (x ∷ l) x.try x.meter ≡ true
  unfolding some_step
  sent_here = rw (eq-eqb x.try x.try refl, eq-eqb x.meter x.meter refl)

  pub refused_here : sent_at l x.try x.meter ≡ false → refused_at (x ∷ l) x.try x.meter ≡ is_refused x.answer
  unfolding some_step
  refused_here e =
      rw (eq-eqb x.try x.try refl, eq-eqb x.meter x.meter refl, not_refused l x.try x.meter e) (or-false (is_refused x.answer))

  module _ (k i : ℕ) where
    apart : is_at k i x ≡ false → (sent_at (x ∷ l) k i ≡ sent_at l k i) × (refused_at (x ∷ l) k i ≡ refused_at l k i)
    unfolding some_step
    apart e = (rw e, rw e)

    pub other_turn : x.try ≢ k → (sent_at (x ∷ l) k i ≡ sent_at l k i) × (refused_at (x ∷ l) k i ≡ refused_at l k i)
    other_turn h = apart (rw (ne_eqb x.try k h))

    pub other_meter : x.meter ≢ i → (sent_at (x ∷ l) k i ≡ sent_at l k i) × (refused_at (x ∷ l) k i ≡ refused_at l k i)
    other_meter h = apart (rw (ne_eqb x.meter i h) (and-false (eqb x.try k)))

  -- who sends in a turn was settled before it
  pub same_sends : (k i : ℕ) → k ≤ x.try → sends_in (x ∷ l) k i ≡ sends_in l k i
  unfolding sends_in
  same_sends zero i h = refl
  same_sends (suc k) i h = (other_turn k i (λ (e : x.try ≡ k). omega arith)).1

  -- so that who waits in an earlier turn waits as before
  pub same_waits : (k i : ℕ) → suc k ≤ x.try → waits_in (x ∷ l) k i ≡ waits_in l k i
  same_waits k i h = rw (same_sends k i (omega arith), (other_turn k i (λ (e : x.try ≡ k). omega arith)).0)

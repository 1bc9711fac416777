-- What the turn, the place in it and the meters to send say of the steps so far. Assumes nothing.
use Rattle.std.specs.Prelude.{ℕ, suc, ◌≤◌, ◌<◌, ◌≡◌, refl, ◌≢◌, Bool, true, false, not, cond, List, [], ◌∷◌, eqb, ltb, length, replicate, set}
use Rattle.std.proofs.Common.{eq-or-lt_of_le, le_of_suc-le-suc, arith, sym, ◌∙◌, get_or-set_same, get_or-set_other}
use Rattle.std.proofs.Math.Nat.{le_refl}
use Rattle.std.proofs.Math.Logic.{⊎_elim}
use Rattle.std.proofs.Math.Bool.{and-false}
use Rattle.std.proofs.lemmas.List.{get_or-replicate}
use borrow.Author.Tests.{le-leb, le-ltb, lt-leb, lt-ltb}
use Rattle.words.specs.Search.{first_where_lem}
use Rattle.words.specs.Sum.{first_where}
use Rattle.words.specs.SumLaws.{le_or_lt}
use Rattle.words.specs.Word.{indicator}
use Rattle.streets.specs.Street.{Meter, Nobody, Step, is_refused, meter_in, refused_at, sender_after, sends_in, sent_at, some_step, turn_now, waits_in}
use Rattle.streets.specs.MeterLaws.{Due, due_skips, due_stands, is_due}
use Rattle.streets.specs.StepList.{not_refused, other_meter, other_turn, refused_here, same_sends, same_waits, sent_here}
use Rattle.streets.specs.declared.Plan.{Plan}

-- ---- the array after a step

back : (b : Bool) → not (eqb (cond b 1 0) 0) ≡ b
back true = refl
back false = refl

module _ (due : List ℕ) (x : Step) where
  abbrev after : List ℕ
  after = set due x.meter (indicator (is_refused x.answer))

  pub same_due : (i : ℕ) → x.meter ≢ i → is_due after i ≡ is_due due i
  same_due i h = rw (get_or-set_other due x.meter i (indicator (is_refused x.answer)) 0 (λ e. h (sym e)))

  pub new_due : x.meter < length due → is_due after x.meter ≡ is_refused x.answer
  new_due room = rw (get_or-set_same due x.meter (indicator (is_refused x.answer)) 0 room) (back (is_refused x.answer))

-- ---- the steps so far

-- the turns before are over, in this one the meters below `at` have had it, and nobody has sent after that; a meter from `at` on is to send
-- where it sends in this turn, one below it where it was refused in it
pub record Stands (plan : Plan) (l : List Step) (turn at : ℕ) (due : List ℕ) : Type 0 where
  pub over : (k i : ℕ) → k < turn → i < plan.meters → waits_in l k i ≡ false
  pub had : (i : ℕ) → i < at → i < plan.meters → waits_in l turn i ≡ false
  pub ahead : (i : ℕ) → at ≤ i → sent_at l turn i ≡ false
  pub later : (k i : ℕ) → turn < k → sent_at l k i ≡ false
  pub now : (i : ℕ) → at ≤ i → i < plan.meters → sends_in l turn i ≡ is_due due i
  pub next : (i : ℕ) → i < at → i < plan.meters → refused_at l turn i ≡ is_due due i

module _ (plan : Plan) where
  -- ---- a turn in which no meter waits

  module _ (l : List Step) where
    idle : (k : ℕ) → ((i : ℕ) → i < plan.meters → waits_in l k i ≡ false) → ltb (meter_in plan l k) plan.meters ≡ false
    unfolding meter_in
    idle k h =
        let e : plan.meters ≡ first_where plan.meters (waits_in l k) = first_where_lem (record { within = le_refl plan.meters; before = h; found = λ z. absurd (omega arith) }) in
        rw (← e) (le-ltb plan.meters plan.meters (le_refl plan.meters))

    all_turns : ((k i : ℕ) → k ≤ plan.retries → i < plan.meters → waits_in l k i ≡ false) → suc plan.retries ≡ turn_now plan l
    unfolding turn_now
    all_turns h =
        first_where_lem (record { within = le_refl (suc plan.retries); before = λ k b. idle k (λ i z. h k i (omega arith) z); found = λ z. absurd (omega arith) })

    pub nobody_left : ((k i : ℕ) → k ≤ plan.retries → i < plan.meters → waits_in l k i ≡ false) → sender_after plan l ≡ Nobody
    unfolding sender_after
    nobody_left h = rw (← (all_turns h), lt-leb (suc plan.retries) plan.retries (omega arith))

  -- before the first step
  pub stands_first : plan.meters ≤ 256 → Stands plan [] 0 0 (replicate 256 1)
  unfolding some_step sends_in
  stands_first few = record {
    over = λ k i h. absurd (omega arith);
    had = λ i h. absurd (omega arith);
    ahead = λ i h. refl;
    later = λ k i h. refl;
    now = λ i h m. rw (get_or-replicate {A = ℕ} 256 i 1 0 (omega arith));
    next = λ i h. absurd (omega arith);
  }

  module _ {l : List Step} {turn at : ℕ} {due : List ℕ} (s : Stands plan l turn at due) where
    still : (i : ℕ) → at ≤ i → i < plan.meters → is_due due i ≡ false → waits_in l turn i ≡ false
    still i h m e = rw (s.now i h m ∙ e)

    -- ---- the turn is over where nobody from `at` on is to send

    module _ (none : (i : ℕ) → at ≤ i → i < plan.meters → is_due due i ≡ false) where
      all_over : (i : ℕ) → i < plan.meters → waits_in l turn i ≡ false
      all_over i m = ⊎_elim (λ (h : at ≤ i). still i h m (none i h m)) (λ (h : i < at). s.had i h m) (le_or_lt at i)

      again_is : (i : ℕ) → i < plan.meters → refused_at l turn i ≡ is_due due i
      again_is i m = ⊎_elim (λ (h : at ≤ i). not_refused l turn i (s.ahead i h) ∙ sym (none i h m)) (λ (h : i < at). s.next i h m) (le_or_lt at i)

      pub turn_over : Stands plan l (suc turn) 0 due
      unfolding sends_in
      turn_over = record {
        over = λ k i h m. ⊎_elim (λ (e : k ≡ turn). rw e (all_over i m)) (λ (b : k < turn). s.over k i b m) (eq-or-lt_of_le (le_of_suc-le-suc h));
        had = λ i h. absurd (omega arith);
        ahead = λ i h. s.later (suc turn) i (omega arith);
        later = λ k i h. s.later k i (omega arith);
        now = λ i h m. again_is i m;
        next = λ i h. absurd (omega arith);
      }

    -- ---- the next meter sends in this turn

    module _ (x : Step) (now : x.try ≡ turn) (from : at ≤ x.meter) (room : x.meter < length due)
        (skipped : (i : ℕ) → at ≤ i → i < x.meter → i < plan.meters → is_due due i ≡ false) where
      abbrev w : ℕ
      w = x.meter

      abbrev due' : List ℕ
      due' = set due w (indicator (is_refused x.answer))

      had_it : (i : ℕ) → i < w → i < plan.meters → waits_in (x ∷ l) turn i ≡ false
      had_it i h m =
          rw (same_sends x l turn i (omega arith), (other_meter x l turn i (λ (e : w ≡ i). omega arith)).0)
          (⊎_elim (λ (b : at ≤ i). still i b m (skipped i b h m)) (λ (b : i < at). s.had i b m) (le_or_lt at i))

      refused_in : (i : ℕ) → i < w → i < plan.meters → refused_at (x ∷ l) turn i ≡ is_due due' i
      refused_in i h m =
          (other_meter x l turn i (λ (e : w ≡ i). omega arith)).1
          ∙ ⊎_elim (λ (b : at ≤ i). not_refused l turn i (s.ahead i b) ∙ sym (skipped i b h m)) (λ (b : i < at). s.next i b m) (le_or_lt at i)
          ∙ sym (same_due due x i (λ (e : w ≡ i). omega arith))

      pub sent_in_turn : Stands plan (x ∷ l) turn (suc w) due'
      sent_in_turn = record {
        over = λ k i h m. same_waits x l k i (omega arith) ∙ s.over k i h m;
        had = λ i h m. ⊎_elim (λ (e : i ≡ w). rw e (rw (← now) (rw (sent_here x l) (and-false (sends_in (x ∷ l) x.try w))))) (λ (b : i < w). had_it i b m) (eq-or-lt_of_le (le_of_suc-le-suc h));
        ahead = λ i h. (other_meter x l turn i (λ (e : w ≡ i). omega arith)).0 ∙ s.ahead i (omega arith);
        later = λ k i h. (other_turn x l k i (λ (e : x.try ≡ k). omega arith)).0 ∙ s.later k i h;
        now = λ i h m. same_sends x l turn i (omega arith) ∙ s.now i (omega arith) m ∙ sym (same_due due x i (λ (e : w ≡ i). omega arith));
        next = λ i h m.
            ⊎_elim (λ (e : i ≡ w). rw e (rw (← now) (refused_here x l (rw now (s.ahead w from))) ∙ sym (new_due due x room))) (λ (b : i < w). refused_in i b m)
            (eq-or-lt_of_le (le_of_suc-le-suc h));
      }

    -- ---- who sends next: a meter that stands in this turn

    module _ {w : ℕ} (first : Due due plan.meters at w) (m : w < plan.meters) where
      passed_over : (i : ℕ) → i < w → waits_in l turn i ≡ false
      passed_over i b =
          ⊎_elim (λ (h : at ≤ i). still i h (omega arith) (due_skips due plan.meters at first i h b)) (λ (h : i < at). s.had i h (omega arith)) (le_or_lt at i)

      meter_is : w ≡ meter_in plan l turn
      unfolding meter_in
      meter_is =
          let (from, is) = due_stands due plan.meters at first m in
          first_where_lem (record { within = first.within; before = passed_over; found = λ z. rw (s.now w from m ∙ is, s.ahead w from) })

      turn_is : turn ≤ plan.retries → turn ≡ turn_now plan l
      unfolding turn_now
      turn_is r =
          first_where_lem (record { within = omega arith; before = λ k b. idle l k (λ i z. s.over k i b z); found = λ z. rw (← meter_is) (lt-ltb w plan.meters m) })

      pub meter_now : turn ≤ plan.retries → sender_after plan l ≡ Meter w turn
      unfolding sender_after
      meter_now r = rw (← (turn_is r), le-leb turn plan.retries r, ← meter_is)

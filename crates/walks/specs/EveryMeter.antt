-- Where no meter is left to send, each was read, right or as another codeword, or is among those never read. Assumes nothing.
use Rattle.std.specs.Prelude.{ℕ, zero, suc, ◌+◌, ◌≤◌, ◌<◌, ◌≡◌, ◌≢◌, Bool, ◌&&◌, List, [], ◌∷◌, length, replicate, set, Some, None}
use Rattle.std.proofs.Math.Decide.{dec_lt}
use Rattle.std.proofs.Common.{add-one, arith, sym, ◌∙◌, subst, eq-eqb, ne_eqb}
use Rattle.std.proofs.Math.Path.{refl, ap}
use Rattle.std.proofs.Math.Bool.{true, false, cond}
use Rattle.std.proofs.lemmas.Bool.{false≢true}
use Rattle.std.proofs.Math.Dec.{eqb}
use Rattle.std.proofs.lemmas.List.{get_or-replicate}
use Rattle.words.specs.Sum.{sum_below, total}
use Rattle.words.specs.SumLaws.{sum_ext, sum_same, sum_zero}
use Rattle.words.specs.Word.{indicator}
use Rattle.tables.specs.Tables.{Slot, held}
use Rattle.streets.specs.Street.{Answered, Meter, Nobody, Sender, Step, answer_to, count_steps, is_other, is_refused, is_right, load_at, other, other_in, refusal, right, right_in, sender_after, steps_after, with_step}
use Rattle.streets.specs.State.{next_due, sender_of, shows_by, street_by, street_after}
use Rattle.streets.specs.MeterLaws.{Due, due_first, due_none, due_skips, due_stands, is_due, last_turn, none_refused, sends_again, sends_now}
use Rattle.streets.specs.Standing.{new_due, same_due}
use Rattle.streets.specs.Represents.{Represents, represents, steps_suc, street_suc}
use Rattle.streets.specs.StreetLaws.{street_sender}
use Rattle.streets.specs.declared.Plan.{Plan}
use Rattle.streets.specs.declared.Street.{Street}
use Rattle.street_report.specs.Report.{never_in}

-- ---- sums in which one term changes

sum_changed : (n : ℕ) (f g : ℕ → ℕ) (w : ℕ) → w < n → ((i : ℕ) → w ≢ i → g i ≡ f i) → sum_below n g + f w ≡ sum_below n f + g w
unfolding total
sum_changed zero f g w h e = absurd (omega arith)
sum_changed (suc n) f g w h e = elim (dec_lt w n) [
  | yes l ↦ omega (arith, sum_changed n f g w l e, e n (λ z. absurd (omega arith)))
  | no k ↦ let z : w ≡ n = omega arith in
      omega (arith, sum_ext n g f (λ i l. e i (λ z. absurd (omega arith))), ap f z, ap g z)
]

-- terms that are 0
sum_longer : (a n : ℕ) (f : ℕ → ℕ) → a ≤ n → ((i : ℕ) → a ≤ i → i < n → f i ≡ 0) → sum_below n f ≡ sum_below a f
unfolding total
sum_longer a zero f h e = let z : 0 ≡ a = omega arith in ap (λ (k : ℕ). sum_below k f) z
sum_longer a (suc n) f h e = elim (dec_lt n a) [
  | yes l ↦ let z : suc n ≡ a = omega arith in ap (λ (k : ℕ). sum_below k f) z
  | no k ↦ omega (arith, sum_longer a n f (omega arith) (λ i p q. e i p (omega arith)), e n (omega arith) (omega arith))
]

-- ---- the meters that are to send, and those read and never read

abbrev due_at : List ℕ → ℕ → ℕ
due_at due i = indicator (is_due due i)

not_due : (due : List ℕ) (i : ℕ) → is_due due i ≡ false → due_at due i ≡ 0
not_due due i e = rw e

-- in turn `turn`, with the meters below `at` past
record Shared (plan : Plan) (l : List Step) (turn at : ℕ) (due : List ℕ) : Type 0 where
  all : right_in l + other_in l + sum_below plan.meters (due_at due) ≡ plan.meters
  never : never_in plan.retries l ≡ cond (eqb turn plan.retries) (sum_below at (due_at due)) 0

no_sum : (c : Bool) → ◌≡◌ {A = ℕ} 0 (cond c 0 0)
no_sum true = refl
no_sum false = refl

and_yes : (p : Bool) → indicator (p && true) ≡ indicator p
and_yes true = refl
and_yes false = refl

and_no : (p : Bool) → indicator (p && false) ≡ 0
and_no true = refl
and_no false = refl

one_of : (a : Answered) → indicator (is_right a) + indicator (is_other a) + indicator (is_refused a) ≡ 1
one_of right = refl
one_of other = refl
one_of (refusal e) = refl

module _ (plan : Plan) where
  shared_first : (due : List ℕ) → ((i : ℕ) → i < plan.meters → is_due due i ≡ true) → Shared plan [] 0 0 due
  unfolding count_steps total
  shared_first due h = record {
    all = omega (arith, sum_same plan.meters 1 (due_at due) (λ i l. ap indicator (h i l)));
    never = no_sum (eqb 0 plan.retries);
  }

  module _ {l : List Step} {turn at : ℕ} {due : List ℕ} (b : Shared plan l turn at due) where
    -- the turn is over
    shared_over : turn < plan.retries → Shared plan l (suc turn) 0 due
    unfolding total
    shared_over t = record {
      all = b.all;
      never = b.never ∙ ap (λ (c : Bool). cond c (sum_below at (due_at due)) 0) (ne_eqb turn plan.retries (λ z. absurd (omega arith))) ∙ no_sum (eqb (suc turn) plan.retries);
    }

    -- a meter sends
    module _ (x : Step) (now : x.try ≡ turn) (from : at ≤ x.meter) (m : x.meter < plan.meters) (room : x.meter < length due)
        (is : is_due due x.meter ≡ true) (skips : (i : ℕ) → at ≤ i → i < x.meter → is_due due i ≡ false) where
      abbrev w : ℕ
      w = x.meter

      abbrev due' : List ℕ
      due' = set due w (indicator (is_refused x.answer))

      same : (i : ℕ) → w ≢ i → due_at due' i ≡ due_at due i
      same i h = ap indicator (same_due due x i h)

      new : due_at due' w ≡ indicator (is_refused x.answer)
      new = ap indicator (new_due due x room)

      -- those past, with the one that sent
      past : sum_below (suc w) (due_at due') ≡ sum_below at (due_at due) + indicator (is_refused x.answer)
      unfolding total
      past = omega (arith, sum_ext w (due_at due') (due_at due) (λ i h. same i (λ z. absurd (omega arith))), sum_longer at w (due_at due) from (λ i p q. not_due due i (skips i p q)), new)

      counted_all : right_in (x ∷ l) + other_in (x ∷ l) + sum_below plan.meters (due_at due') ≡ plan.meters
      unfolding count_steps
      counted_all =
          let one : due_at due w ≡ 1 = ap indicator is in
          omega (arith, b.all, sum_changed plan.meters (due_at due) (due_at due') w m same, one, new, one_of x.answer)

      at_try : (c : Bool) → eqb turn plan.retries ≡ c → indicator (is_refused x.answer && eqb x.try plan.retries) ≡ indicator (is_refused x.answer && c)
      at_try c e = ap (λ (d : Bool). indicator (is_refused x.answer && d)) (ap (λ (k : ℕ). eqb k plan.retries) now ∙ e)

      counted_never : never_in plan.retries (x ∷ l) ≡ cond (eqb turn plan.retries) (sum_below (suc w) (due_at due')) 0
      unfolding count_steps
      counted_never = go (eqb turn plan.retries) refl
        where
          go : (c : Bool) → eqb turn plan.retries ≡ c → never_in plan.retries (x ∷ l) ≡ cond c (sum_below (suc w) (due_at due')) 0
          go true e = omega (arith, past, b.never ∙ ap (λ (c : Bool). cond c (sum_below at (due_at due)) 0) e, at_try true e ∙ and_yes (is_refused x.answer))
          go false e = omega (arith, b.never ∙ ap (λ (c : Bool). cond c (sum_below at (due_at due)) 0) e, at_try false e ∙ and_no (is_refused x.answer))

      shared_sent : Shared plan (x ∷ l) turn (suc w) due'
      shared_sent = record { all = counted_all; never = counted_never }

-- ---- after every step

abbrev is_meter : Sender → Bool
is_meter None = false
is_meter (Some v) = true

module _ (slot : Slot) (plan : Plan) (start : ℕ) (few : plan.meters ≤ 256) where
  abbrev steps : ℕ → List Step
  steps n = steps_after slot plan start n

  abbrev streets : ℕ → Street
  streets n = street_after slot plan start n

  abbrev SharedBy : List Step → Street → Type 0
  SharedBy l s = Shared plan l s.turn s.at s.due

  abbrev stepped : Street → Sender → Street
  stepped s v = street_by slot plan s (shows_by slot plan s 0 v)

  abbrev After : List Step → Street → Sender → Type 0
  After l s v = SharedBy (with_step slot plan start l v) (stepped s v)

  module _ (l : List Step) (s : Street) (r : Represents slot plan start l s) (b : SharedBy l s) where
    abbrev due : List ℕ
    due = s.due

    abbrev meters : ℕ
    meters = plan.meters

    abbrev i : ℕ
    i = next_due due meters s.at

    abbrev j : ℕ
    j = next_due due meters 0

    here : Due due meters s.at i
    here = due_first due meters s.at

    again : Due due meters 0 j
    again = due_first due meters 0

    -- a meter sends in a turn that the street stands in, or that it can pass on to
    sends : (turn at w : ℕ) → Shared plan l turn at due → Due due meters at w → w < meters → After l s (Meter w turn)
    unfolding with_step
    sends turn at w c first m =
        let (from, is) = due_stands due meters at first m in
        let x : Step = record { meter = w; try = turn; answer = answer_to (held slot) plan.wrong (load_at slot plan start l) } in
        rw r.state (shared_sent plan c x refl from m (omega (arith, r.size)) is (due_skips due meters at first))

    nobody : After l s Nobody
    unfolding with_step
    nobody = b

    none_here : meters ≤ i → (q : ℕ) → s.at ≤ q → q < meters → is_due due q ≡ false
    none_here o = due_none due meters s.at here o

    none_at_all : meters ≤ j → (q : ℕ) → q < meters → is_due due q ≡ false
    none_at_all o q h = due_none due meters 0 again o q (omega arith) h

    next_shared : After l s (sender_of plan s)
    next_shared = elim (dec_lt i meters) [
      | yes m ↦ subst (After l s) (sends_now plan s refl m) (sends s.turn s.at i b here m)
      | no o ↦ elim (dec_lt s.turn plan.retries) [
        | yes t ↦ elim (dec_lt j meters) [
          | yes m ↦ subst (After l s) (sym (ap (Meter j) (add-one s.turn)) ∙ sends_again plan s refl (omega arith) t refl m) (sends (suc s.turn) 0 j (shared_over plan b t) again m)
          | no k ↦ subst (After l s) (none_refused plan s refl (omega arith) t refl (omega arith)) nobody
        ]
        | no k ↦ subst (After l s) (last_turn plan s refl (omega arith) (omega arith)) nobody
      ]
    ]

    -- nobody is left
    ended : sender_of plan s ≡ Nobody → right_in l + other_in l + never_in plan.retries l ≡ meters
    ended e = elim (dec_lt i meters) [
      | yes m ↦ absurd (false≢true (sym (ap is_meter (sends_now plan s refl m ∙ e))))
      | no o ↦ elim (dec_lt s.turn plan.retries) [
        | yes t ↦ elim (dec_lt j meters) [
          | yes m ↦ absurd (false≢true (sym (ap is_meter (sends_again plan s refl (omega arith) t refl m ∙ e))))
          | no k ↦ omega (
            arith,
            b.all,
            sum_zero meters (due_at due) (λ q h. not_due due q (none_at_all (omega arith) q h)),
            b.never ∙ ap (λ (c : Bool). cond c (sum_below s.at (due_at due)) 0) (ne_eqb s.turn plan.retries (λ z. absurd (omega arith))),
          )
        ]
        | no k ↦ omega (
          arith,
          b.all,
          sum_longer s.at meters (due_at due) r.bounds.within (λ q p h. not_due due q (none_here (omega arith) q p h)),
          b.never ∙ ap (λ (c : Bool). cond c (sum_below s.at (due_at due)) 0) (eq-eqb s.turn plan.retries (omega (arith, r.turns))),
        )
      ]
    ]

  first_shared : SharedBy (steps 0) (streets 0)
  unfolding steps_after street_after
  first_shared = shared_first plan (replicate 256 1) (λ i h. rw (get_or-replicate {A = ℕ} 256 i 1 0 (omega arith)))

  shared : (n : ℕ) → SharedBy (steps n) (streets n)
  shared zero = first_shared
  shared (suc n) =
      subst (λ (l : List Step). SharedBy l (streets (suc n)))
      (ap (with_step slot plan start (steps n)) (street_sender slot plan start few n) ∙ sym (steps_suc slot plan start n))
      (subst (SharedBy (with_step slot plan start (steps n) (sender_of plan (streets n)))) (sym (street_suc slot plan start n))
      (next_shared (steps n) (streets n) (represents slot plan start few n) (shared n)))

  -- "meters never read": with no meter left, each was accepted once, right or as another codeword, or was refused at its last try
  pub every_meter : (n : ℕ) → sender_after plan (steps n) ≡ Nobody → right_in (steps n) + other_in (steps n) + never_in plan.retries (steps n) ≡ plan.meters
  every_meter n e = ended (steps n) (streets n) (represents slot plan start few n) (shared n) (street_sender slot plan start few n ∙ e)

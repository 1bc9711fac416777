-- What holds of the steps of a street, however many: request 10's promises. Assumes nothing.
use Prim.Native.Nat.{ℕ, zero, suc, ◌+◌, ◌*◌, ◌^◌, ◌≤◌, ◌<◌}
use Rattle.std.proofs.Common.{mul-le-mul_right, suc-mul, arith, sym, ◌∙◌, subst}
use Rattle.std.proofs.Math.Decide.{le_ind}
use Rattle.std.specs.Prelude.{◌≡◌, ◌⊎◌, false, List, [], ◌∷◌, ltb, Some, None}
use Rattle.std.proofs.Math.Path.{refl, ap}
use Rattle.std.proofs.Math.Logic.{inl, inr, ⊎_elim}
use Rattle.std.proofs.lemmas.Bool.{false≢true}
use Rattle.std.proofs.Math.ListN.{length}
use Rattle.refusals.specs.Refusals.{first_refusal}
use Rattle.tables.specs.Tables.{Slot, held}
use Rattle.load.specs.LoadLaws.{before_live}
use Rattle.words.specs.Word.{indicator}
use Rattle.streets.specs.Street.{Answered, Meter, Nobody, Sender, Step, answer_to, count_steps, is_other, is_refused, is_right, load_at, other, other_in, refusal, refused_in, right, right_in, sender_after, sent_in, steps_after, with_step}
use Rattle.streets.specs.State.{Showing, shows_none, room_checks, sender_of, setting_checks, shows, shows_by, step, street_after, street_by}
use Rattle.streets.specs.CheckLaws.{settings_again, settled}
use Rattle.streets.specs.Bounds.{accepted_of, one_most, sent_by}
use Rattle.streets.specs.Represents.{DueIn, goes_after, represents, steps_first, street_suc}
use Rattle.streets.specs.StepLaws.{is_meter, settings_pass}
use Rattle.streets.specs.declared.Plan.{Plan}
use Rattle.streets.specs.declared.Street.{Street}

-- ---- "blocks sent are those accepted right, accepted as another codeword, and refused", of any list of steps

one_of : (a : Answered) (n r o e : ℕ) → n ≡ r + o + e → suc n ≡ indicator (is_right a) + r + (indicator (is_other a) + o) + (indicator (is_refused a) + e)
one_of right n r o e h = omega arith
one_of other n r o e h = omega arith
one_of (refusal number) n r o e h = omega arith

pub adds_up : (l : List Step) → sent_in l ≡ right_in l + other_in l + refused_in l
unfolding count_steps
adds_up [] = refl
adds_up (x ∷ l) = one_of x.answer (sent_in l) (right_in l) (other_in l) (refused_in l) (adds_up l)

-- what a step shows after the steps l
abbrev pub next_of : Slot → Plan → ℕ → List Step → Sender → Showing
next_of slot plan start l None = shows_none
next_of slot plan start l (Some v) = step (record { meter = v.meter; try = v.turn; answer = answer_to (held slot) plan.wrong (load_at slot plan start l) })

module _ (slot : Slot) (plan : Plan) (start : ℕ) where
  abbrev steps : ℕ → List Step
  steps n = steps_after slot plan start n

  -- ---- with nobody left, nothing is added

  none_more : (l : List Step) {w : Sender} → w ≡ Nobody → with_step slot plan start l w ≡ l
  unfolding with_step
  none_more l e = rw e

  one_more : (l : List Step) {i k : ℕ} {w : Sender} → w ≡ Meter i k → length (with_step slot plan start l w) ≡ suc (length l)
  unfolding with_step
  one_more l e = rw e

  pub stays : (n : ℕ) → sender_after plan (steps n) ≡ Nobody → (k : ℕ) → n ≤ k → steps k ≡ steps n
  unfolding steps_after
  stays n e = le_ind (λ (k : ℕ). steps k ≡ steps n) refl (λ k h u. rw u (none_more (steps n) e))

  -- a meter that sends adds a step
  pub sent_more : (n : ℕ) {i k : ℕ} → sender_after plan (steps n) ≡ Meter i k → length (steps (suc n)) ≡ suc (length (steps n))
  unfolding steps_after
  sent_more n e = one_more (steps n) e

  nobody_more : (n : ℕ) → sender_after plan (steps n) ≡ Nobody → sender_after plan (steps (suc n)) ≡ Nobody
  nobody_more n e = ap (sender_after plan) (stays n e (suc n) (omega arith)) ∙ e

  -- every call has sent, or nobody is left
  pub all_sent : (n : ℕ) → (length (steps n) ≡ n) ⊎ (sender_after plan (steps n) ≡ Nobody)
  unfolding steps_after
  all_sent zero = inl refl
  all_sent (suc n) = ⊎_elim (λ (q : length (steps n) ≡ n). by (sender_after plan (steps n)) refl q) (λ e. inr (nobody_more n e)) (all_sent n)
    where
      by : (w : Sender) → sender_after plan (steps n) ≡ w → length (steps n) ≡ n → (length (steps (suc n)) ≡ suc n) ⊎ (sender_after plan (steps (suc n)) ≡ Nobody)
      by None e q = inr (nobody_more n e)
      by (Some v) e q = inl (sent_more n e ∙ ap suc q)

  -- where a meter sends, every call before it has sent
  pub full : (n : ℕ) {i k : ℕ} → sender_after plan (steps n) ≡ Meter i k → length (steps n) ≡ n
  full n e = ⊎_elim (λ q. q) (λ z. absurd (false≢true (ap is_meter (sym z ∙ e)))) (all_sent n)

  length_more : (n : ℕ) (w : Sender) → sender_after plan (steps n) ≡ w → steps (length (steps n)) ≡ steps n → steps (length (steps (suc n))) ≡ steps (suc n)
  length_more n None e h = rw (stays n e (suc n) (omega arith)) h
  length_more n (Some v) e h = ap steps (sent_more n e ∙ ap suc (full n e))

  -- as many calls as blocks were sent make the same steps
  pub steps-length : (n : ℕ) → steps (length (steps n)) ≡ steps n
  steps-length zero = ap (λ (l : List Step). steps (length l)) (steps_first slot plan start)
  steps-length (suc n) = length_more n (sender_after plan (steps n)) refl (steps-length n)

  module _ (few : plan.meters ≤ 256) where
    -- ---- the code's street

    pub street_sender : (n : ℕ) → sender_of plan (street_after slot plan start n) ≡ sender_after plan (steps n)
    street_sender n = let g = (goes_after slot plan start few n).goes in g.by_street ∙ sym g.by_list

    -- "each block the next of one load": as many blocks were drawn as were sent
    pub street_load : (n : ℕ) → (street_after slot plan start n).state ≡ load_at slot plan start (steps n)
    street_load n = (represents slot plan start few n).state

    -- ---- a step of a street from its start, in buffers of the right sizes

    module _ (u : start < 2 ^ 32) (e : first_refusal (setting_checks slot plan start) ≡ 0) where
      -- no setting is refused later: 21 comes at the start or not at all
      pub settings_hold : (n : ℕ) → first_refusal (setting_checks slot plan (street_after slot plan start n).state) ≡ 0
      settings_hold n =
          let live = before_live (held slot).m (held slot).r plan.wrong record { small = u; some = (settled slot plan start e).start } (length (steps n)) in
          settings_again slot plan start e (street_after slot plan start n).state (λ z. live.some (sym (street_load n) ∙ z))

      module _ (n room area : ℕ) (fits : first_refusal (room_checks slot room area) ≡ 0) where
        abbrev s : Street
        s = street_after slot plan start n

        by_street : shows slot plan s room area ≡ shows_by slot plan s 0 (sender_of plan s)
        by_street =
            sym (settings_pass slot plan s room area (sym (settings_hold n)) refl) ∙ ap (λ (number : ℕ). shows_by slot plan s number (sender_of plan s)) fits

        by_load : (w : Sender) → shows_by slot plan s 0 w ≡ next_of slot plan start (steps n) w
        by_load None = refl
        by_load (Some v) = ap (λ (x : ℕ). step (record { meter = v.meter; try = v.turn; answer = answer_to (held slot) plan.wrong x })) (street_load n)

        -- it shows the next step of the list, or that none is left
        pub step_shows : shows slot plan s room area ≡ next_of slot plan start (steps n) (sender_after plan (steps n))
        step_shows = by_street ∙ ap (shows_by slot plan s 0) (street_sender n) ∙ by_load (sender_after plan (steps n))

        -- and leaves the street after it
        pub step_goes : street_by slot plan s (shows slot plan s room area) ≡ street_after slot plan start (suc n)
        step_goes = ap (street_by slot plan s) by_street ∙ sym (street_suc slot plan start n)

    -- ---- how many blocks are sent

    pub steps_most : (n : ℕ) → length (steps n) ≤ suc plan.retries * plan.meters
    steps_most n =
        let r = represents slot plan start few n in
        omega (arith, r.bounds.few, r.bounds.within, mul-le-mul_right plan.meters r.turns, suc-mul plan.retries plan.meters)

    pub meter_most : (n i : ℕ) → sent_by (steps n) i ≤ suc plan.retries
    meter_most n i =
        let r = represents slot plan start few n in
        omega (arith, r.bounds.each i, r.turns, one_most (ltb i (street_after slot plan start n).at))

    -- so that a street ends
    pub ends : (n : ℕ) → suc plan.retries * plan.meters ≤ n → sender_after plan (steps n) ≡ Nobody
    ends n h = ⊎_elim (λ (q : length (steps n) ≡ n). by (sender_after plan (steps n)) refl q) (λ e. e) (all_sent n)
      where
        by : (w : Sender) → sender_after plan (steps n) ≡ w → length (steps n) ≡ n → sender_after plan (steps n) ≡ Nobody
        by None e q = e
        by (Some v) e q = absurd (omega (arith, sent_more n e, steps_most (suc n)))

    -- a meter that was accepted, right or as another codeword, sends no more
    pub accepted_quiet : (n : ℕ) {i k : ℕ} → sender_after plan (steps n) ≡ Meter i k → accepted_of (steps n) i ≡ false
    accepted_quiet n {i} {k} e =
        let s : Street = street_after slot plan start n in
        let g = (goes_after slot plan start few n).goes in
        (represents slot plan start few n).bounds.quiet i (subst (DueIn slot plan start s) (sym g.by_list ∙ e) g.to_send)

-- The street that the code keeps says what the list of steps does: it is so at the start, and a step keeps it. Assumes nothing.
use Rattle.std.specs.Prelude.{ℕ, zero, suc, ◌≤◌, ◌<◌, ◌≡◌, true, false, List, [], Some, None}
use Rattle.std.proofs.Math.Decide.{dec_lt, le_ind}
use Rattle.std.proofs.Common.{add-one, arith, sym, ap, ◌∙◌}
use Rattle.std.proofs.Math.Path.{refl}
use Rattle.std.proofs.Math.ListN.{length, length-replicate, length-set}
use Rattle.tables.specs.Tables.{Slot, held}
use Rattle.load.specs.Load.{state_before}
use Rattle.streets.specs.Street.{Meter, Nobody, Sender, Step, answer_to, load_at, sender_after, steps_after, waits_in, with_step}
use Rattle.streets.specs.State.{begins, next_due, sender_of, shows_by, street_by, street_after}
use Rattle.streets.specs.MeterLaws.{Due, due_first, due_none, due_skips, due_stands, is_due, last_turn, none_refused, sends_again, sends_now}
use Rattle.streets.specs.Standing.{Stands, meter_now, nobody_left, sent_in_turn, stands_first, turn_over}
use Rattle.streets.specs.Bounds.{Bounded, bounded_first, bounded_over, bounded_sent}
use Rattle.streets.specs.declared.Plan.{Plan}
use Rattle.streets.specs.declared.Street.{Street}

module _ (slot : Slot) (plan : Plan) (start : ℕ) where
  pub record Represents (l : List Step) (s : Street) : Type 0 where
    pub state : s.state ≡ load_at slot plan start l
    pub stands : Stands plan l s.turn s.at s.due
    pub bounds : Bounded plan l s.turn s.at s.due
    pub turns : s.turn ≤ plan.retries
    pub size : length s.due ≡ 256

  pub represents_first : plan.meters ≤ 256 → Represents [] (begins start)
  unfolding state_before
  represents_first few = record {
    state = refl;
    stands = stands_first plan few;
    bounds = bounded_first plan _;
    turns = omega arith;
    size = length-replicate {A = ℕ} 256 1;
  }

  -- the street after the sender's step
  abbrev pub stepped : Street → Sender → Street
  stepped s w = street_by slot plan s (shows_by slot plan s 0 w)

  -- the sender is to send
  abbrev pub DueIn : Street → Sender → Type 0
  DueIn s None = Unit {0}
  DueIn s (Some v) = is_due s.due v.meter ≡ true

  -- who sends next by the street is who does by the list, and the street after it says what the list after it does
  pub record Goes (l : List Step) (s : Street) (w : Sender) : Type 0 where
    pub by_street : sender_of plan s ≡ w
    pub by_list : sender_after plan l ≡ w
    pub to_send : DueIn s w
    pub kept : Represents (with_step slot plan start l w) (stepped s w)

  pub record Next (l : List Step) (s : Street) : Type 0 where
    pub who : Sender
    pub goes : Goes l s who

  module _ (few : plan.meters ≤ 256) {l : List Step} {s : Street} (r : Represents l s) where
    abbrev due : List ℕ
    due = s.due

    -- a meter sends in a turn that the street stands in, or that it can pass on to
    module _ {turn at w : ℕ} (stands : Stands plan l turn at due) (bounds : Bounded plan l turn at due) (turns : turn ≤ plan.retries)
        (first : Due due plan.meters at w) (m : w < plan.meters) where
      sends : Represents (with_step slot plan start l (Meter w turn)) (stepped s (Meter w turn))
      unfolding with_step state_before
      sends =
          let (from, is) = due_stands due plan.meters at first m in
          let x : Step = record { meter = w; try = turn; answer = answer_to (held slot) plan.wrong (load_at slot plan start l) } in
          let room : w < length due = omega (arith, r.size) in
          rw r.state
          (record {
            state = refl;
            stands = sent_in_turn plan stands x refl from room (λ i a b z. due_skips due plan.meters at first i a b);
            bounds = bounded_sent plan bounds x from m room is;
            turns = turns;
            size = length-set due w _ ∙ r.size;
          })

      going : sender_of plan s ≡ Meter w turn → Next l s
      going e = record {
        who = Meter w turn;
        goes = record {
          by_street = e;
          by_list = meter_now plan stands first m turns;
          to_send = (due_stands due plan.meters at first m).1;
          kept = sends;
        };
      }

    -- nobody sends
    ending : sender_of plan s ≡ Nobody → ((k i : ℕ) → k ≤ plan.retries → i < plan.meters → waits_in l k i ≡ false) → Next l s
    unfolding with_step
    ending e h = record { who = Nobody; goes = record { by_street = e; by_list = nobody_left plan l h; to_send = tt; kept = r } }

    -- no meter is to send in any later turn
    all_over : {turn at : ℕ} → Stands plan l turn at due → ((i : ℕ) → at ≤ i → i < plan.meters → is_due due i ≡ false)
        → ((i : ℕ) → i < plan.meters → is_due due i ≡ false) → (k : ℕ) → suc turn ≤ k → Stands plan l k 0 due
    all_over {turn} st none quiet = le_ind (λ (k : ℕ). Stands plan l k 0 due) (turn_over plan st none) (λ k h u. turn_over plan u (λ i a b. quiet i b))

    abbrev meters : ℕ
    meters = plan.meters

    abbrev i : ℕ
    i = next_due due meters s.at

    abbrev j : ℕ
    j = next_due due meters 0

    here : Due due meters s.at i
    here = due_first due meters s.at

    again : Due due meters 0 j
    again = due_first due meters 0

    -- nobody is to send in this turn any more
    module _ (over : meters ≤ i) where
      passed : Stands plan l (suc s.turn) 0 due
      passed = turn_over plan r.stands (due_none due meters s.at here over)

      last : plan.retries ≤ s.turn → Next l s
      last t = ending (sym (last_turn plan s refl over t)) (λ k q h m. passed.over k q (omega arith) m)

      in_next : s.turn < plan.retries → j < meters → Next l s
      in_next t m =
          going passed (bounded_over plan r.bounds) t again m (sym (sends_again plan s refl over t refl m) ∙ ap (Meter j) (add-one s.turn))

      none_again : s.turn < plan.retries → meters ≤ j → Next l s
      none_again t o =
          let quiet : (q : ℕ) → q < meters → is_due due q ≡ false = λ q m. due_none due meters 0 again o q (omega arith) m in
          ending (sym (none_refused plan s refl over t refl o))
          (λ k q h m. (all_over r.stands (λ q a b. quiet q b) quiet (suc plan.retries) (omega arith)).over k q (omega arith) m)

    pub next : Next l s
    next = elim (dec_lt i meters) [
      | yes m ↦ going r.stands r.bounds r.turns here m (sym (sends_now plan s refl m))
      | no o ↦ elim (dec_lt s.turn plan.retries) [
        | yes t ↦ elim (dec_lt j meters) [
          | yes m ↦ in_next (omega arith) t m
          | no k ↦ none_again (omega arith) t (omega arith)
        ]
        | no k ↦ last (omega arith) (omega arith)
      ]
    ]

  -- ---- after every step

  pub steps_first : steps_after slot plan start 0 ≡ []
  unfolding steps_after
  steps_first = refl

  pub steps_suc : (n : ℕ) → steps_after slot plan start (suc n) ≡ with_step slot plan start (steps_after slot plan start n) (sender_after plan (steps_after slot plan start n))
  unfolding steps_after
  steps_suc n = refl

  street_first : street_after slot plan start 0 ≡ begins start
  unfolding street_after
  street_first = refl

  pub street_suc : (n : ℕ) → street_after slot plan start (suc n) ≡ stepped (street_after slot plan start n) (sender_of plan (street_after slot plan start n))
  unfolding street_after
  street_suc n = refl

  by_both : {l l' : List Step} {s s' : Street} → l' ≡ l → s' ≡ s → Represents l s → Represents l' s'
  by_both e f r = rw (e, f) r

  by_next : {l : List Step} {s : Street} → Next l s → Represents (with_step slot plan start l (sender_after plan l)) (stepped s (sender_of plan s))
  by_next {l} {s} n =
      by_both (ap (with_step slot plan start l) n.goes.by_list) (ap (stepped s) n.goes.by_street) n.goes.kept

  module _ (few : plan.meters ≤ 256) where
    pub represents : (n : ℕ) → Represents (steps_after slot plan start n) (street_after slot plan start n)
    represents zero = by_both steps_first street_first (represents_first few)
    represents (suc n) = by_both (steps_suc n) (street_suc n) (by_next (next few (represents n)))

    pub goes_after : (n : ℕ) → Next (steps_after slot plan start n) (street_after slot plan start n)
    goes_after n = next few (represents n)

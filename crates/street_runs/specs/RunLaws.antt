-- A run, step by step: its log, a step more, and the loop. Assumes nothing.
use Rattle.std.specs.Prelude.{ℕ, suc, ◌+◌, ◌*◌, ◌/◌, ◌^◌, ◌≤◌, ◌<◌, ◌≡◌, Bool, true, false, List, [], ◌∷◌, ◌++◌, eqb, ℤ, pos, length, set, Some, None, Ok, Err}
use Rattle.std.proofs.Common.{add_comm, add-one, arith, ◌∙◌, subst, eq-eqb, le-ltb, lt-ltb, ne_eqb}
use Rattle.std.proofs.Math.Path.{refl, sym, ap}
use Rattle.std.proofs.lemmas.Bool.{false≢true}
use Rattle.std.proofs.Math.ListN.{replicate}
use Rattle.refusals.specs.Refusals.{Check, Checked, check, first_refusal, Answer}
use Rattle.refusals.proofs.CheckLaws.{number_pos, rest_passed}
use Rattle.refusals.specs.declared.Refusal.{Refusal}
use Rattle.tables.specs.Tables.{Slot, held}
use Rattle.load.specs.CallLaws.{nowhere}
use Rattle.streets.specs.Street.{Meter, Sender, Step, block_of, count_steps, load_at, sender_after, steps_after, with_step}
use Rattle.streets.specs.State.{Showing, Steps, area_by, begins, block_by, shows_none, refused, room_checks, sender_of, setting_checks, shows, shows_by, shown_as, step, street_by, answered, street_after}
use Rattle.street_runs.specs.Run.{Made, Runs, answer_in, entered, logged, run_checks}
use Rattle.street_runs.specs.Progress.{Goable, GoesOn, Runnable, RunsOn, counted_by, ended_by, log_by, ran_by, showing, unsent}
use Rattle.streets.specs.CheckLaws.{Settled, settled}
use Rattle.streets.specs.StepLaws.{sender_turn, sender_within, settings_pass}
use Rattle.streets.specs.Represents.{represents, stepped, steps_suc, street_suc}
use Rattle.streets.specs.StreetLaws.{adds_up, settings_hold, sent_more, stays, street_load, street_sender}
use Rattle.streets.specs.declared.Fate.{Fate}
use Rattle.streets.specs.declared.Plan.{Plan}
use Rattle.street_runs.specs.declared.Ran.{Ran}
use Rattle.streets.specs.declared.Stepped.{Stepped}
use Rattle.streets.specs.declared.Street.{Street}

-- ---- the log

module _ (i meter try answer : ℕ) (log : List ℕ) where
  pub log_full : length log / 3 ≤ i → log ≡ entered i meter try answer log
  unfolding entered
  log_full h = rw (le-ltb (3 * i + 2) (length log) (omega arith))

  pub log_room : i < length log / 3 → set (set (set log (3 * i) meter) (3 * i + 1) try) (3 * i + 2) answer ≡ entered i meter try answer log
  unfolding entered
  log_room h = rw (lt-ltb (3 * i + 2) (length log) (omega arith))

-- ---- a step more

abbrev is_step : Showing → Bool
is_step (step x) = true
is_step shows_none = false
is_step (refused number) = false

abbrev meter_in : Showing → ℕ
meter_in (step x) = x.meter
meter_in shows_none = 0
meter_in (refused number) = 0

abbrev try_in : Showing → ℕ
try_in (step x) = x.try
try_in shows_none = 0
try_in (refused number) = 0

module _ (slot : Slot) (plan : Plan) (ran : Ran) where
  abbrev s : Street
  s = ran.street

  module _ {block area : ℕ} (g : Goable slot plan ran block area) where
    pub passing : shows slot plan s block area ≡ showing slot plan s
    passing = sym (settings_pass slot plan s block area (sym g.settings) refl) ∙ ap (λ (n : ℕ). shows_by slot plan s n (sender_of plan s)) g.buffers

    -- the numbers of a step fit the log
    pub sent_fits : (x : Step) → step x ≡ shows slot plan s block area → (x.meter < 256) × (x.try < 16)
    sent_fits x e = by (sender_of plan s) refl (e ∙ passing)
      where
        k : Settled slot plan s.state
        k = settled slot plan s.state g.settings

        by : (w : Sender) → sender_of plan s ≡ w → step x ≡ shows_by slot plan s 0 w → (x.meter < 256) × (x.try < 16)
        by None q z = absurd (false≢true (sym (ap is_step z)))
        by (Some v) q z =
            (omega (arith, k.few, sender_within plan s q, ap meter_in z), omega (arith, k.turns, sender_turn plan s q g.turns, ap try_in z))

  pub gone :
      {log log' block block' : List ℕ} {area area' : List ℤ} {st : Stepped} {y : Showing} {a : Ran} → Goable slot plan ran (length block) (length area)
      → Steps slot plan s block block' area area' st → shown_as st.shown ≡ y → a ≡ ran_by ran st.street y → log' ≡ log_by ran.sent log y
      → GoesOn slot plan ran log log' block block' area area' a
  gone {log} {st = st} {y} g h e f q =
      let p = passing g in
      let z : y ≡ showing slot plan s = sym e ∙ h.shown ∙ p in
      record {
        ran_is = f ∙ ap (λ (t : Street). ran_by ran t y) (h.street ∙ ap (street_by slot plan s) p)
            ∙ ap (ran_by ran (street_by slot plan s (showing slot plan s))) z;
        log_is = q ∙ ap (log_by ran.sent log) z;
        block_is = h.block_is ∙ rw p;
        area_is = h.area_is ∙ rw p;
      }

  pub gone_sent :
      {log log' block block' : List ℕ} {area area' : List ℤ} {st : Stepped} {m t n : ℕ} {f : Fate} {a : Ran} → Goable slot plan ran (length block) (length area)
      → Steps slot plan s block block' area area' st → st.shown ≡ Ok (Some (record { meter = m; turn = t; fate = f })) → a ≡ counted_by ran (answered f) st.street → n ≡ answer_in (answered f)
      → log' ≡ entered ran.sent m t n log → GoesOn slot plan ran log log' block block' area area' a
  gone_sent g h e z q p = gone g h (ap shown_as e) z (p ∙ rw q)

-- ---- what the checks of a run make sure of

-- where two groups of checks pass, the first does
first_passed : (cs ds : List Check) → first_refusal (cs ++ ds) ≡ 0 → first_refusal cs ≡ 0
unfolding first_refusal
first_passed [] ds e = refl
first_passed (check n true ∷ cs) ds e = first_passed cs ds e
first_passed (check n false ∷ cs) ds e = e

module _ (slot : Slot) (plan : Plan) (start room area : ℕ) (e : first_refusal (run_checks slot plan start room area) ≡ 0) where
  run_settings : first_refusal (setting_checks slot plan start) ≡ 0
  run_settings = first_passed (setting_checks slot plan start) (room_checks slot room area) e

  run_room : first_refusal (room_checks slot room area) ≡ 0
  run_room = rest_passed (setting_checks slot plan start) (room_checks slot room area) tt e

  pub run_settled : Settled slot plan start
  run_settled = settled slot plan start run_settings

-- ---- what a run has made

module _ (slot : Slot) (plan : Plan) (start : ℕ) where
  pub made_none : (answer : Answer) {log block : List ℕ} {area : List ℤ} → Made slot plan start [] log log block block area area (unsent answer (begins start))
  unfolding count_steps logged street_after
  made_none answer = record { sent = refl; right = refl; other = refl; refused = refl; street = refl; log_is = refl; block_is = refl; area_is = refl }

  made_by :
      {l l' : List Step} {log log' log'' block block' block'' : List ℕ} {area area' area'' : List ℤ} {ran a : Ran} → l' ≡ l → log'' ≡ log' → block'' ≡ block'
      → area'' ≡ area' → a ≡ ran → Made slot plan start l log log' block block' area area' ran → Made slot plan start l' log log'' block block'' area area'' a
  made_by p q u v e m = rw (p, q, u, v, e) m

  module _ {l : List Step} {log log' block block' : List ℕ} {area area' : List ℤ} {ran : Ran} (m : Made slot plan start l log log' block block' area area' ran) where
    made_ended : Made slot plan start l log log' block block' area area' (ended_by ran)
    made_ended = record {
      sent = m.sent;
      right = m.right;
      other = m.other;
      refused = m.refused;
      street = m.street;
      log_is = m.log_is;
      block_is = m.block_is;
      area_is = m.area_is;
    }

    module _ (i k : ℕ) (who : sender_of plan ran.street ≡ Meter i k) (state : ran.street.state ≡ load_at slot plan start l) (lent : length area' ≡ length area) where
      abbrev now : Street
      now = ran.street

      abbrev seen : Showing
      seen = shows_by slot plan now 0 (Meter i k)

      made_more :
          Made slot plan start (with_step slot plan start l (Meter i k)) log (log_by ran.sent log' seen) block (block_by slot plan now block' seen) area
          (area_by slot plan now area' seen) (ran_by ran (street_by slot plan now seen) seen)
      unfolding with_step count_steps logged
      made_more = record {
        sent = omega (arith, m.sent);
        right = rw (m.right, state) (add_comm _ _);
        other = rw (m.other, state) (add_comm _ _);
        refused = rw (m.refused, state) (add_comm _ _);
        street =
            sym (street_suc slot plan start (length l) ∙ ap (λ (t : Street). stepped slot plan start t (sender_of plan t)) (sym m.street)
            ∙ ap (stepped slot plan start now) who);
        log_is = rw (m.sent, state, m.log_is);
        block_is = ap (λ (y : ℕ). block_of (held slot) plan.wrong y) state;
        area_is = ap (λ (n : ℕ). replicate n (pos 0)) lent;
      }

-- ---- the loop

module _ (slot : Slot) (plan : Plan) (start budget : ℕ) where
  -- a run that has sent the first n blocks
  pub record Going (n : ℕ) (log log' block block' : List ℕ) (area area' : List ℤ) (ran : Ran) : Type 0 where
    pub within : n ≤ budget
    pub done : ran.answer ≡ (Ok tt)
    pub more : ran.none_left ≡ false
    pub full : length (steps_after slot plan start n) ≡ n
    pub made : Made slot plan start (steps_after slot plan start n) log log' block block' area area' ran
    pub long : length log' ≡ length log
    pub size : length block' ≡ length block
    pub lent : length area' ≡ length area

  pub going_first : {log block : List ℕ} {area : List ℤ} → Going 0 log log block block area area (unsent (Ok tt) (begins start))
  unfolding steps_after
  going_first = record { within = omega arith; done = refl; more = refl; full = refl; made = made_none slot plan start (Ok tt); long = refl; size = refl; lent = refl }

  module _ {n : ℕ} {log log' block block' : List ℕ} {area area' : List ℤ} {ran : Ran} (h : Runnable slot plan start (length block) (length area))
      (g : Going n log log' block block' area area' ran) where
    abbrev steps : ℕ → List Step
    steps = steps_after slot plan start

    few : plan.meters ≤ 256
    few = (run_settled slot plan start (length block) (length area) h.checks).few

    street_is : ran.street ≡ street_after slot plan start n
    street_is = g.made.street ∙ ap (street_after slot plan start) g.full

    state_is : ran.street.state ≡ load_at slot plan start (steps n)
    state_is = ap (λ (s : Street). s.state) street_is ∙ street_load slot plan start few n

    who_is : sender_of plan ran.street ≡ sender_after plan (steps n)
    who_is = ap (sender_of plan) street_is ∙ street_sender slot plan start few n

    pub going_goable : n < budget → budget < 2 ^ 64 → start < 2 ^ 32 → Goable slot plan ran (length block') (length area')
    going_goable l b u =
        let e = h.checks in
        record {
          proper = h.proper;
          settings = rw street_is (settings_hold slot plan start few u (run_settings slot plan start (length block) (length area) e) n);
          buffers = rw (g.size, g.lent) (run_room slot plan start (length block) (length area) e);
          turns = rw street_is (represents slot plan start few n).turns;
          counts = record {
            room = omega (arith, g.made.sent, g.full);
            sums = g.made.sent ∙ adds_up (steps n) ∙ sym (rw (g.made.right, g.made.other, g.made.refused) refl);
          };
        }

    pub going_all : budget ≤ n → RunsOn slot plan start budget log log' block block' area area' ran
    going_all l =
        let e : n ≡ budget = omega (arith, g.within) in
        rw (← e) (record { done = g.done; steps = g.made; none_left = g.more ∙ sym (le-ltb (length (steps n)) n (omega (arith, g.full))) })

    module _ {log'' block'' : List ℕ} {area'' : List ℤ} {a : Ran} (l : n < budget) (o : GoesOn slot plan ran log' log'' block' block'' area' area'' a) where
      abbrev by : Sender → Showing
      by w = shows_by slot plan ran.street 0 w

      by_who : {w : Sender} → sender_after plan (steps n) ≡ w → showing slot plan ran.street ≡ by w
      by_who e = ap by (who_is ∙ e)

      ran_by_lem : {w : Sender} → sender_after plan (steps n) ≡ w → a ≡ ran_by ran (street_by slot plan ran.street (by w)) (by w)
      ran_by_lem e = o.ran_is ∙ ap (λ (x : Showing). ran_by ran (street_by slot plan ran.street x) x) (by_who e)

      pub going_ended : a.none_left ≡ true → RunsOn slot plan start budget log log'' block block'' area area'' a
      going_ended t = go (sender_after plan (steps n)) refl
        where
          go : (w : Sender) → sender_after plan (steps n) ≡ w → RunsOn slot plan start budget log log'' block block'' area area'' a
          go (Some v) e = absurd (false≢true (sym (ap (λ (r : Ran). r.none_left) (ran_by_lem e)) ∙ t))
          go None e =
              let same : steps budget ≡ steps n = stays slot plan start n e budget (omega arith) in
              let x = by_who e in
              record {
                done = ap (λ (r : Ran). r.answer) (ran_by_lem e) ∙ g.done;
                steps =
                    made_by slot plan start same (o.log_is ∙ ap (log_by ran.sent log') x) (o.block_is ∙ ap (block_by slot plan ran.street block') x)
                    (o.area_is ∙ ap (area_by slot plan ran.street area') x) (ran_by_lem e) (made_ended slot plan start g.made);
                none_left = t ∙ sym (rw same (lt-ltb (length (steps n)) budget (omega (arith, g.full))));
              }

      pub going_more : a.none_left ≡ false → length log'' ≡ length log' → length block'' ≡ length block' → length area'' ≡ length area'
          → Going (n + 1) log log'' block block'' area area'' a
      going_more t p q u = subst (λ (j : ℕ). Going j log log'' block block'' area area'' a) (sym (add-one n)) (go (sender_after plan (steps n)) refl)
        where
          go : (w : Sender) → sender_after plan (steps n) ≡ w → Going (suc n) log log'' block block'' area area'' a
          go None e = absurd (false≢true (sym t ∙ ap (λ (r : Ran). r.none_left) (ran_by_lem e)))
          go (Some v) e =
              let x = by_who e in
              record {
                within = omega arith;
                done = ap (λ (r : Ran). r.answer) (ran_by_lem e) ∙ g.done;
                more = t;
                full = sent_more slot plan start n e ∙ ap suc g.full;
                made =
                    made_by slot plan start (steps_suc slot plan start n ∙ ap (with_step slot plan start (steps n)) e) (o.log_is ∙ ap (log_by ran.sent log') x)
                    (o.block_is ∙ ap (block_by slot plan ran.street block') x) (o.area_is ∙ ap (area_by slot plan ran.street area') x) (ran_by_lem e)
                    (made_more slot plan start g.made v.meter v.turn (who_is ∙ e) state_is g.lent);
                long = p ∙ g.long;
                size = q ∙ g.size;
                lent = u ∙ g.lent;
              }

-- ---- calls

module _ (slot : Slot) (plan : Plan) (start budget : ℕ) {log block : List ℕ} {area : List ℤ} where
  pub runs_refused :
      (why : Refusal) {a : Ran} → Checked (run_checks slot plan start (length block) (length area)) [] (Err why) → a ≡ unsent (Err why) (begins start)
      → Runs slot plan start budget log log block block area area a
  runs_refused why c e =
      let n : ℕ = first_refusal (run_checks slot plan start (length block) (length area)) in
      let some : eqb n 0 ≡ false = ne_eqb n 0 (λ (z : n ≡ 0). omega (arith, c.number, number_pos why)) in
      rw e (record { answer = c.number; place = c.place ∙ nowhere n; steps = rw some (made_none slot plan start (Err why)); none_left = rw some })

  pub runs_done :
      {log' block' : List ℕ} {area' : List ℤ} {a : Ran} → first_refusal (run_checks slot plan start (length block) (length area)) ≡ 0
      → RunsOn slot plan start budget log log' block block' area area' a → Runs slot plan start budget log log' block block' area area' a
  runs_done e o =
      let none : eqb (first_refusal (run_checks slot plan start (length block) (length area))) 0 ≡ true = eq-eqb _ 0 e in
      record { answer = rw o.done (sym e); place = rw o.done; steps = rw none o.steps; none_left = rw none o.none_left }

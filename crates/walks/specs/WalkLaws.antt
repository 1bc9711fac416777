-- Laws of a walk along a street: what it is after each step, and that it ends with the counts of all steps. Assumes nothing.
use Rattle.std.specs.Prelude.{ℕ, zero, suc, ◌^◌, ◌≤◌, ◌<◌, ◌≡◌, ◌≢◌, Bool, true, false, cond, not, IsErrAnd, Option, Some, None, Result, Ok, Err, List, [], ◌∷◌, eqb, length}
use Rattle.std.proofs.Common.{mul-le-mul_right, arith, sym, ap, ◌∙◌, subst, eq-eqb, ne_eqb, eqb-true, le-leb}
use Rattle.std.proofs.Math.Path.{refl, ap₂}
use Rattle.std.proofs.lemmas.Bool.{eqb-false}
use Rattle.refusals.specs.Refusals.{first_refusal, number_of}
use Rattle.refusals.specs.declared.Refusal.{Refusal}
use Rattle.refusals.proofs.CheckLaws.{passed, passes, no_more}
use Rattle.tables.specs.Tables.{Slot, held}
use Rattle.load.specs.LoadLaws.{before_live}
use Rattle.streets.specs.Street.{Meter, Nobody, Sender, Step, answer_to, load_at, sender_after, steps_after, with_step}
use Rattle.streets.specs.State.{Shown, Showing, answered, begins, shows_none, refused, room_checks, setting_checks, shown_as, shows, shows_by, step, street_by, street_after}
use Rattle.streets.specs.CheckLaws.{settled}
use Rattle.streets.specs.StepLaws.{settings_pass, settings_refuse}
use Rattle.streets.specs.Represents.{steps_suc, street_suc}
use Rattle.streets.specs.StreetLaws.{sent_more, stays, steps_most, street_load, street_sender}
use Rattle.streets.specs.declared.Plan.{Plan}
use Rattle.streets.specs.declared.Fate.{Fate}
use Rattle.streets.specs.declared.Street.{Street}
use Rattle.street_report.specs.Report.{counts_of, no_counts, plus_step}
use Rattle.street_report.specs.ReportLaws.{counts_more, counts_none}
use Rattle.street_report.specs.declared.Counts.{Counts}
use Rattle.walks.specs.Walk.{Lent, Onward, Walked, refusal, steps_made}
use Rattle.walks.specs.declared.Walk.{Walk}

-- ---- settings that pass at the start pass at every later state of the load

pub later_passes : (slot : Slot) (plan : Plan) (x y : ℕ) → first_refusal (setting_checks slot plan x) ≡ 0 → y ≢ 0 → 0 ≡ first_refusal (setting_checks slot plan y)
later_passes slot plan x y e some =
    let a = passed 22 _ _ e in
    let b = passed 22 _ _ a.1 in
    let c = passed 23 _ _ b.1 in
    let d = passed 13 _ _ c.1 in
    let f = passed 20 _ _ d.1 in
    passes 23 _ _ a.0
    (passes 23 _ _ b.0 (passes 24 _ _ c.0 (passes 14 _ _ d.0 (passes 21 _ _ (ap not (ne_eqb y 0 some)) (sym f.1)))))

room_passes : (slot : Slot) (room area : ℕ) → Lent slot room area → first_refusal (room_checks slot room area) ≡ 0
room_passes slot room area l = sym (passes 6 _ _ (eq-eqb _ _ l.size) (passes 7 _ _ (le-leb _ _ l.most) no_more))

-- ---- the code's returns: a step that shows x

module _ (slot : Slot) (plan : Plan) {x : Showing} (w : Walk) {sh : Shown} (shows_x : shown_as sh ≡ x) where
  pub sent_onward : {i k : ℕ} {f : Fate} {c : Counts} {after : Street} → after ≡ street_by slot plan w.street x → sh ≡ Ok (Some (record { meter = i; turn = k; fate = f })) → c ≡ plus_step plan.retries w.counts k (answered f)
      → Onward slot plan w (Ok (Some (record { street = after; counts = c }))) x
  sent_onward {i} {k} {f} {c} {after} leaves g e =
      let y : step (record { meter = i; try = k; answer = answered f }) ≡ x = sym (ap shown_as g) ∙ shows_x in
      subst (Onward slot plan w (Ok (Some (record { street = after; counts = c })))) y
      (ap₂ (λ (s : Street) (n : Counts). Ok (Some (record { street = s; counts = n }))) (leaves ∙ ap (street_by slot plan w.street) (sym y)) e)

  pub none_onward : sh ≡ Ok None → Onward slot plan w (Ok None) x
  none_onward g = subst (Onward slot plan w (Ok None)) (sym (ap shown_as g) ∙ shows_x) refl

  pub refused_onward : {why : Refusal} → sh ≡ Err why → Onward slot plan w (Err why) x
  refused_onward {why} g = subst (Onward slot plan w (Err why)) (sym (ap shown_as g) ∙ shows_x) refl

module _ (slot : Slot) (plan : Plan) (start : ℕ) where
  abbrev steps : ℕ → List Step
  steps n = steps_after slot plan start n

  abbrev streets : ℕ → Street
  streets n = street_after slot plan start n

  -- a walk after n steps, each of which has sent a block
  pub record Walking (n : ℕ) (w : Walk) : Type 0 where
    pub street : w.street ≡ streets n
    pub counts : w.counts ≡ counts_of plan.retries (steps n)
    pub sent : length (steps n) ≡ n
    pub passed : 0 < n → refusal slot plan start ≡ 0

  -- what one more step comes to: another, or the walk has ended
  abbrev pub Next : ℕ → Walk → Result (Option Walk) Refusal → Type 0
  Next n w (Ok (Some more)) = Walking (suc n) more
  Next n w (Ok None) = Walked slot plan start (Ok w)
  Next n w (Err why) = Walked slot plan start (Err record { why = why; walk = w })

  first_none : steps 0 ≡ []
  unfolding steps_after
  first_none = refl

  first_street : streets 0 ≡ begins start
  unfolding street_after
  first_street = refl

  pub starts : (w : Walk) → w.street ≡ begins start → w.counts ≡ no_counts → Walking 0 w
  starts w s c = record {
    street = s ∙ sym first_street;
    counts = c ∙ sym (counts_none plan.retries) ∙ ap (counts_of plan.retries) (sym first_none);
    sent = ap length first_none;
    passed = λ z. absurd (omega arith);
  }

  -- ---- one more step

  withs : (l : List Step) {w : Sender} {i k : ℕ} → w ≡ Meter i k
      → with_step slot plan start l w ≡ record { meter = i; try = k; answer = answer_to (held slot) plan.wrong (load_at slot plan start l) } ∷ l
  unfolding with_step
  withs l e = rw e

  module _ {room area : ℕ} (lent : Lent slot room area) (small : start < 2 ^ 32) where
    module _ (fine : refusal slot plan start ≡ 0) where
      few : plan.meters ≤ 256
      few = (settled slot plan start fine).few

      -- the load does not come to 0
      some_state : (n : ℕ) → (streets n).state ≢ 0
      some_state n z =
          (before_live (held slot).m (held slot).r plan.wrong {start = start} (record { small = small; some = (settled slot plan start fine).start }) (length (steps n))).some
          (sym (street_load slot plan start few n) ∙ z)

      shown : (n : ℕ) → shows slot plan (streets n) room area ≡ shows_by slot plan (streets n) 0 (sender_after plan (steps n))
      shown n =
          sym (settings_pass slot plan (streets n) room area (later_passes slot plan start (streets n).state fine (some_state n)) (sym (street_sender slot plan start few n)))
          ∙ ap (λ (number : ℕ). shows_by slot plan (streets n) number (sender_after plan (steps n))) (room_passes slot room area lent)

      module _ (n : ℕ) (w : Walk) (r : Result (Option Walk) Refusal) (h : n ≤ 4096) (k : Walking n w) where
        abbrev X : Showing → Type 0
        X x = Onward slot plan w r x

        -- nobody is left
        none : X shows_none → sender_after plan (steps n) ≡ Nobody → Next n w r
        none s e = subst (Next n w) (sym s) (
          fine,
          k.counts
              ∙ ap (counts_of plan.retries) (sym (stays slot plan start n e 4096 h) ∙ sym (ap (λ (b : Bool). cond b (steps 4096) []) (eq-eqb (refusal slot plan start) 0 fine))),
        )

        -- meter i sends
        module _ (i t : ℕ) (e : sender_after plan (steps n) ≡ Meter i t) where
          abbrev one : ℕ → Step
          one x = record { meter = i; try = t; answer = answer_to (held slot) plan.wrong x }

          sends : X (step (one (streets n).state)) → Next n w r
          sends s = subst (Next n w) (sym s) record {
            street =
                ap (λ (v : Street). street_by slot plan v (step (one (streets n).state))) k.street
                ∙ sym (street_suc slot plan start n ∙ ap (λ (v : Sender). street_by slot plan (streets n) (shows_by slot plan (streets n) 0 v)) (street_sender slot plan start few n ∙ e));
            counts =
                ap (λ (c : Counts). plus_step plan.retries c t (one (streets n).state).answer) k.counts
                ∙ sym (counts_more plan.retries (one (streets n).state) (steps n))
                ∙ ap (counts_of plan.retries) (ap (λ (x : ℕ). one x ∷ steps n) (street_load slot plan start few n) ∙ sym (steps_suc slot plan start n ∙ withs (steps n) e));
            sent = sent_more slot plan start n e ∙ ap suc k.sent;
            passed = λ z. fine;
          }

        by_sender : (v : Sender) → sender_after plan (steps n) ≡ v → X (shows_by slot plan (streets n) 0 v) → Next n w r
        by_sender None e s = none s e
        by_sender (Some v) e s = sends v.meter v.turn e s

        goes_on : X (shows slot plan w.street room area) → Next n w r
        goes_on s =
            by_sender (sender_after plan (steps n)) refl (subst X (ap (λ (v : Street). shows slot plan v room area) k.street ∙ shown n) s)

    -- settings that are refused are so before the first step
    stops : (w : Walk) (r : Result (Option Walk) Refusal) → refusal slot plan start ≢ 0 → w.counts ≡ counts_of plan.retries (steps_made slot plan start) → IsErrAnd r (λ why. number_of why ≡ refusal slot plan start) → Next 0 w r
    stops w (Ok _) bad c s = elim s [ ]
    stops w (Err why) bad c s = (bad, s, c)

    refuses : (n : ℕ) (w : Walk) (r : Result (Option Walk) Refusal) → refusal slot plan start ≢ 0 → Walking n w → Onward slot plan w r (shows slot plan w.street room area) → Next n w r
    refuses zero w r bad k s =
        let x : shows slot plan w.street room area ≡ refused (refusal slot plan start) =
        ap (λ (v : Street). shows slot plan v room area) (k.street ∙ first_street)
        ∙ sym (settings_refuse slot plan (begins start) room area refl (omega arith)) in
        let c = k.counts ∙ ap (counts_of plan.retries) (first_none ∙ sym (ap (λ (b : Bool). cond b (steps 4096) []) (ne_eqb (refusal slot plan start) 0 bad))) in
        stops w r bad c (subst (Onward slot plan w r) x s)
    refuses (suc n) w r bad k s = absurd (bad (k.passed (omega arith)))

    pub walks_on : (n : ℕ) (w : Walk) {r r' : Result (Option Walk) Refusal} → r ≡ r' → n ≤ 4096 → Walking n w → Onward slot plan w r (shows slot plan w.street room area) → Next n w r'
    walks_on n w {r} {r'} is h k s = subst (Next n w) is (go (eqb (refusal slot plan start) 0) refl)
      where
        go : (b : Bool) → eqb (refusal slot plan start) 0 ≡ b → Next n w r
        go true e = goes_on (eqb-true (refusal slot plan start) 0 e) n w r h k s
        go false e = refuses n w r (eqb-false (refusal slot plan start) 0 e) k s

  -- ---- the end

  -- 4,097 steps cannot all have sent
  pub too_long : (w : Walk) → Walking 4097 w → ⊥
  too_long w k =
      let t = settled slot plan start (k.passed (omega arith)) in
      absurd (omega (arith, k.sent, steps_most slot plan start t.few 4097, mul-le-mul_right {m = suc plan.retries} {n = 16} plan.meters (omega (arith, t.turns)), t.few))

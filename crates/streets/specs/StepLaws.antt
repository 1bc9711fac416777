-- A step, case by case: what it shows, and what a call promises. Assumes nothing.
use Rattle.streets.specs.Street.{Meter, Nobody, Sender}
use Rattle.std.specs.Prelude.{ℕ, suc, ◌≤◌, ◌<◌, ◌≡◌, refl, Bool, true, false, cond, ◌&&◌, List, ltb, ℤ, length, Some, None, Ok}
use Rattle.std.proofs.Common.{add-one, arith, ap, subst}
use Rattle.std.proofs.lemmas.Bool.{false≢true}
use borrow.Author.Tests.{eq-eqb, ltb-true, ne_eqb}
use Rattle.refusals.specs.Refusals.{first_refusal, number_of}
use Rattle.refusals.proofs.CheckLaws.{number_pos}
use Rattle.refusals.specs.declared.Refusal.{Refusal}
use Rattle.tables.specs.Tables.{Slot, held}
use Rattle.streets.specs.State.{Leaves, Showing, Steps, next_due, refused, room_checks, sender_of, setting_checks, shows, shows_by}
use Rattle.streets.specs.Sends.{Sends}
use Rattle.streets.specs.Calls.{refusing, sending}
use Rattle.streets.specs.declared.Plan.{Plan}
use Rattle.streets.specs.declared.Stepped.{Stepped}
use Rattle.streets.specs.declared.Street.{Street}
use Rattle.streets.specs.declared.sends.Sending.{Sending}

-- ---- who sends is one of the meters

abbrev meter_of : Sender → ℕ
meter_of None = 0
meter_of (Some v) = v.meter

abbrev pub is_meter : Sender → Bool
is_meter None = false
is_meter (Some v) = true

either : (n i j t u : ℕ) (b x c : Bool) → ltb i n ≡ b → ltb j n ≡ c → {w : ℕ} {k : ℕ} → cond b (Meter i t) (cond (x && c) (Meter j u) Nobody) ≡ Meter w k → w < n
either n i j t u true x c e f q = omega (arith, ltb-true i n e, ap meter_of q)
either n i j t u false true true e f q = omega (arith, ltb-true j n f, ap meter_of q)
either n i j t u false true false e f q = absurd (false≢true (ap is_meter q))
either n i j t u false false c e f q = absurd (false≢true (ap is_meter q))

pub sender_within : (plan : Plan) (s : Street) {i k : ℕ} → sender_of plan s ≡ Meter i k → i < plan.meters
unfolding sender_of
sender_within plan s q =
    either plan.meters (next_due s.due plan.meters s.at) (next_due s.due plan.meters 0) s.turn (suc s.turn) _ (ltb s.turn plan.retries) _ refl refl q

-- and its try is within the retry limit where the turn is
abbrev turn_of : Sender → ℕ
turn_of None = 0
turn_of (Some v) = v.turn

in_turn : (r i j t : ℕ) (b x c : Bool) → ltb t r ≡ x → {w : ℕ} {k : ℕ} → cond b (Meter i t) (cond (x && c) (Meter j (suc t)) Nobody) ≡ Meter w k → t ≤ r → k ≤ r
in_turn r i j t true x c e q h = omega (arith, ap turn_of q)
in_turn r i j t false true true e q h = omega (arith, ltb-true t r e, ap turn_of q)
in_turn r i j t false true false e q h = absurd (false≢true (ap is_meter q))
in_turn r i j t false false c e q h = absurd (false≢true (ap is_meter q))

pub sender_turn : (plan : Plan) (s : Street) {i k : ℕ} → sender_of plan s ≡ Meter i k → s.turn ≤ plan.retries → k ≤ plan.retries
unfolding sender_of
sender_turn plan s q =
    let i : ℕ = next_due s.due plan.meters s.at in
    let j : ℕ = next_due s.due plan.meters 0 in
    in_turn plan.retries i j s.turn (ltb i plan.meters) _ (ltb j plan.meters) refl q

module _ (slot : Slot) (plan : Plan) (s : Street) where
  -- ---- what it shows

  pub settings_refuse : {number : ℕ} (room area : ℕ) → number ≡ first_refusal (setting_checks slot plan s.state) → 0 < number → refused number ≡ shows slot plan s room area
  unfolding shows
  settings_refuse {number} room area e l = rw (← e, ne_eqb number 0 (λ (z : number ≡ 0). omega arith))

  pub settings_pass : {w : Sender} (room area : ℕ) → 0 ≡ first_refusal (setting_checks slot plan s.state) → w ≡ sender_of plan s
      → shows_by slot plan s (first_refusal (room_checks slot room area)) w ≡ shows slot plan s room area
  unfolding shows
  settings_pass room area e f = rw (← e, f)

  -- ---- what a call promises

  module _ {block : List ℕ} {area : List ℤ} where
    refused_leaves : (why : Refusal) {a : Stepped} → a ≡ refusing why s → Leaves slot plan s (refused (number_of why)) block block area area a
    refused_leaves why e = rw e (record { shown = refl; street = refl; block_is = refl; area_is = refl })

    -- 23, 24, 14, 21 or 22
    pub steps_refused : (why : Refusal) {a : Stepped} → number_of why ≡ first_refusal (setting_checks slot plan s.state) → a ≡ refusing why s
        → Steps slot plan s block block area area a
    steps_refused why {a} n e =
        subst (λ (x : Showing). Leaves slot plan s x block block area area a) (settings_refuse (length block) (length area) n (number_pos why))
        (refused_leaves why e)

    -- 6 or 7
    pub room_refused : (why : Refusal) (i k : ℕ) {number : ℕ} {a : Stepped} → number_of why ≡ number → a ≡ refusing why s
        → Leaves slot plan s (shows_by slot plan s number (Meter i k)) block block area area a
    room_refused why i k {number} n e =
        let some : number ≡ 0 → ⊥ = λ (z : number ≡ 0). omega (arith, number_pos why) in
        rw (ne_eqb number 0 some, ← n) (refused_leaves why e)

    pub steps_none : 0 ≡ first_refusal (setting_checks slot plan s.state) → Nobody ≡ sender_of plan s
        → Steps slot plan s block block area area (record { shown = Ok None; street = s })
    steps_none e f =
        subst (λ (x : Showing). Leaves slot plan s x block block area area (record { shown = Ok None; street = s })) (settings_pass (length block) (length area) e f)
        (record { shown = refl; street = refl; block_is = refl; area_is = refl })

    module _ {block' : List ℕ} {area' : List ℤ} {i k : ℕ} where
      pub steps_sent : {a : Stepped} → 0 ≡ first_refusal (setting_checks slot plan s.state) → Meter i k ≡ sender_of plan s
          → Leaves slot plan s (shows_by slot plan s (first_refusal (room_checks slot (length block) (length area))) (Meter i k)) block block' area area' a
          → Steps slot plan s block block' area area' a
      steps_sent {a} e f h = subst (λ (x : Showing). Leaves slot plan s x block block' area area' a) (settings_pass (length block) (length area) e f) h

      pub sent_leaves : {number : ℕ} (r : Sending) {a : Stepped} → number ≡ 0 → Sends (held slot) plan.wrong s.state block' area area' r
          → a ≡ sending s i k r → Leaves slot plan s (shows_by slot plan s number (Meter i k)) block block' area area' a
      sent_leaves {number} r n h e =
          rw (eq-eqb number 0 n, e)
          (record { shown = rw h.answer; street = rw (h.state, h.answer, add-one i); block_is = h.block_is; area_is = h.area_is })

-- The checks of a street: each return of the code, and what they make sure of. Assumes nothing.
use Rattle.std.specs.Prelude.{ℕ, ◌*◌, ◌≤◌, ◌<◌, ◌≡◌, refl, ◌≢◌, true, not, [], Ok, Err}
use Rattle.std.proofs.Common.{sym, ap, eq-eqb, eqb-true, le-leb, leb-true, ne_eqb}
use Rattle.std.proofs.lemmas.Bool.{eqb-false, lt-leb, not-true}
use Rattle.refusals.specs.Refusals.{Checked, first_refusal}
use Rattle.refusals.proofs.CheckLaws.{all_pass, fails, no_more, passed, passes, refuses}
use Rattle.refusals.specs.declared.Refusal.TheVariants.{AreaLength, Meters, OutputLength, Retries}
use Rattle.tables.specs.Tables.{Slot, is_there}
use Rattle.capture.specs.Capture.{word_size}
use Rattle.streets.specs.State.{plan_checks, room_checks, setting_checks}
use Rattle.streets.specs.declared.Plan.{Plan}

-- ---- 23 and 24

module _ (plan : Plan) where
  pub no_meter : plan.meters < 1 → Checked (plan_checks plan) [] (Err Meters)
  no_meter h = refuses Meters refl (fails 23 _ _ (lt-leb 1 plan.meters h))

  module _ (some : 1 ≤ plan.meters) where
    pub many_meters : 256 < plan.meters → Checked (plan_checks plan) [] (Err Meters)
    many_meters h = refuses Meters refl (passes 23 _ _ (le-leb 1 plan.meters some) (fails 23 _ _ (lt-leb plan.meters 256 h)))

    module _ (few : plan.meters ≤ 256) where
      pub many_retries : 15 < plan.retries → Checked (plan_checks plan) [] (Err Retries)
      many_retries h = refuses Retries refl
          (passes 23 _ _ (le-leb 1 plan.meters some) (passes 23 _ _ (le-leb plan.meters 256 few) (fails 24 _ _ (lt-leb plan.retries 15 h))))

      pub plan_passes : plan.retries ≤ 15 → Checked (plan_checks plan) [] (Ok tt)
      plan_passes h = all_pass
          (passes 23 _ _ (le-leb 1 plan.meters some)
          (passes 23 _ _ (le-leb plan.meters 256 few) (passes 24 _ _ (le-leb plan.retries 15 h) no_more)))

-- ---- 6 and 7

module _ (slot : Slot) (room area : ℕ) where
  pub other_length : room ≢ word_size slot → Checked (room_checks slot room area) [] (Err OutputLength)
  other_length h = refuses OutputLength refl (fails 6 _ _ (ne_eqb room (word_size slot) h))

  module _ (size : room ≡ word_size slot) where
    pub small_area : area < 8 * word_size slot → Checked (room_checks slot room area) [] (Err AreaLength)
    small_area h = refuses AreaLength refl (passes 6 _ _ (eq-eqb room (word_size slot) size) (fails 7 _ _ (lt-leb (8 * word_size slot) area h)))

    pub room_passes : 8 * word_size slot ≤ area → Checked (room_checks slot room area) [] (Ok tt)
    room_passes h = all_pass (passes 6 _ _ (eq-eqb room (word_size slot) size) (passes 7 _ _ (le-leb (8 * word_size slot) area h) no_more))

-- ---- what they make sure of

pub record Settled (slot : Slot) (plan : Plan) (x : ℕ) : Type 0 where
  pub some : 1 ≤ plan.meters
  pub few : plan.meters ≤ 256
  pub turns : plan.retries ≤ 15
  pub known : is_there slot ≡ true
  pub start : x ≢ 0

pub settled : (slot : Slot) (plan : Plan) (x : ℕ) → first_refusal (setting_checks slot plan x) ≡ 0 → Settled slot plan x
settled slot plan x e =
    let a = passed 22 _ _ e in
    let b = passed 22 _ _ a.1 in
    let c = passed 23 _ _ b.1 in
    let d = passed 13 _ _ c.1 in
    let f = passed 20 _ _ d.1 in
    record {
      some = leb-true 1 plan.meters a.0;
      few = leb-true plan.meters 256 b.0;
      turns = leb-true plan.retries 15 c.0;
      known = d.0;
      start = eqb-false x 0 (not-true _ f.0);
    }

-- another state that is not 0 passes them too
pub settings_again : (slot : Slot) (plan : Plan) (x : ℕ) → first_refusal (setting_checks slot plan x) ≡ 0 → (y : ℕ) → y ≢ 0 → first_refusal (setting_checks slot plan y) ≡ 0
settings_again slot plan x e y some =
    let a = passed 22 _ _ e in
    let b = passed 22 _ _ a.1 in
    let c = passed 23 _ _ b.1 in
    let d = passed 13 _ _ c.1 in
    let f = passed 20 _ _ d.1 in
    sym
    (passes 23 _ _ a.0
    (passes 23 _ _ b.0 (passes 24 _ _ c.0 (passes 14 _ _ d.0 (passes 21 _ _ (ap not (ne_eqb y 0 some)) (sym f.1))))))

pub record Roomy (slot : Slot) (room area : ℕ) : Type 0 where
  pub size : room ≡ word_size slot
  pub lent : 8 * word_size slot ≤ area

pub roomy : (slot : Slot) (room area : ℕ) → first_refusal (room_checks slot room area) ≡ 0 → Roomy slot room area
roomy slot room area e =
    let a = passed 5 _ _ e in
    let b = passed 6 _ _ a.1 in
    record { size = eqb-true room (word_size slot) a.0; lent = leb-true (8 * word_size slot) area b.0 }

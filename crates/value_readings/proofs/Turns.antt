-- A reading of confidences in the area: orders 0 and 1, and what its loop over the rounds keeps. Assumes nothing.
use Prim.Native.Nat.{ℕ, suc, ◌+◌, ◌-◌, ◌^◌, ◌≤◌, ◌<◌}
use native.Mathlib.Numerals.{add-one}
use native.Mathlib.Omega.{arith}
use mathlib.Core.Path.{◌≡◌, refl, sym, ap, ap₂, subst, ◌∙◌}
use mathlib.Core.Bool.{cond}
use mathlib.Core.List.{List}
use lib.Dec.{eqb}
use lib.ListN.{length}
use lib.IntN.{ℤ, pos}
use lib.Seq.{get_or-take}
use Rattle.area.specs.Area.{at}
use Rattle.rule.specs.Counts.{Leaf}
use Rattle.rule.proofs.Counts.{leaf_leaves}
use Rattle.rule.specs.Decoding.{limited}
use Rattle.rule.proofs.DecodingLaws.{limited_above, limited_within}
use Rattle.rule.specs.Reading.{Outcome, accepted, leaves_of, order0, order1, refused}
use Rattle.told.specs.Told.{Read, Verdict, as_refused}
use Rattle.told.specs.ToldLaws.{read_above}
use Rattle.told.specs.declared.Noise.TheVariants.{TooManyLeaves}
use Rattle.steps.specs.Answers.{counted, spent}
use Rattle.steps.specs.declared.Count.{Count}
use Rattle.std.specs.Prelude.{Option, None, Some}
use Rattle.confidences.specs.Confidences.{abstained, ended, leaves_after, lowest_zero, reading, round_leaves, updated, values_after, zero_place}
use Rattle.confidences.proofs.Counts.{reading_leaf}
use Rattle.confidences.proofs.Range.{after_range}
use Rattle.confidences.specs.Blocks.{IsBlock}
use Rattle.confidences.proofs.Rounds.{after_block, ended_leaves, leaves_more, leaves_none, leaves_prefix, place_above, reading_above, reading_one, reading-zero, values_more, values_none}
use Rattle.confidences.proofs.ValueLaws.{front_block, front_is, front_range, front_values}
use Rattle.confidences.specs.Values.{Values, front_of}
use Rattle.value_orders.specs.declared.ends.Ended.{Ended}
use Rattle.value_readings.specs.Polls.{Renewed, Rounded}
use Rattle.value_readings.specs.Readings.{Ready, ReadsValues}
use Rattle.value_orders.specs.Leaves.{place_in}

-- an answer that names no place
abbrev pub Unnamed : Verdict → Ended → Type 0
Unnamed a e = (e.answer ≡ a) × (e.place ≡ 0)

-- ---- orders 0 and 1, and too few leaves

-- 9 names no place
leaf_place : (r : ℕ) (o : Outcome) → Leaf r o → (p : ℕ) → place_in o p ≡ 0
leaf_place r (accepted d k l) h p = refl
leaf_place r (refused e k l) h p = ap (λ (i : ℕ). cond (eqb i 17) p 0) h.0

module _ (r m limit left : ℕ) (x ys : List ℤ) where
  leaf : r ≤ 1 → Leaf r (reading r m limit x)
  leaf h = reading_leaf r m limit x h

  leaves_are : r ≤ 1 → leaves_of (reading r m limit x) ≡ r
  leaves_are h = leaf_leaves r (reading r m limit x) (leaf h)

  whole_read : {a : Verdict} {e : Ended} → r ≤ 1 → r ≤ left → Unnamed a e → Read (2 ^ m) (reading r m limit x) ys a → ReadsValues m r limit left x ys e
  whole_read {a} {e} h l u read =
      let within : limited left (reading r m limit x) ≡ reading r m limit x = limited_within left (reading r m limit x) (omega (arith, leaves_are h)) in
      record {
        read = rw within (subst (Read (2 ^ m) (reading r m limit x) ys) (sym u.0) read);
        place = u.1 ∙ sym (ap (λ (o : Outcome). place_in o (zero_place r m limit x)) within ∙ leaf_place r (reading r m limit x) (leaf h) (zero_place r m limit x));
      }

  pub read_zero : {a : Verdict} {e : Ended} → r ≡ 0 → Unnamed a e → Read (2 ^ m) (order0 m (at x)) ys a → ReadsValues m r limit left x ys e
  read_zero {a} q u read =
      whole_read (omega arith) (omega arith) u
      (subst (λ (o : Outcome). Read (2 ^ m) o ys a) (sym (ap (λ (i : ℕ). reading i m limit x) q ∙ reading-zero m limit x)) read)

  pub read_one : {a : Verdict} {e : Ended} → r ≡ 1 → (left ≡ 0 → ⊥) → Unnamed a e → Read (2 ^ m) (order1 m (at x)) ys a → ReadsValues m r limit left x ys e
  read_one {a} q some u read =
      whole_read (omega arith) (omega arith) u
      (subst (λ (o : Outcome). Read (2 ^ m) o ys a) (sym (ap (λ (i : ℕ). reading i m limit x) q ∙ reading_one m limit x)) read)

  -- 12 names no place either
  pub read_over : {e : Ended} → left < leaves_of (reading r m limit x) → Unnamed (as_refused TooManyLeaves 0 left) e → ReadsValues m r limit left x ys e
  read_over over u = record {
    read = subst (Read (2 ^ m) (limited left (reading r m limit x)) ys) (sym u.0) (read_above ys (reading r m limit x) over);
    place = u.1 ∙ sym (ap (λ (o : Outcome). place_in o (zero_place r m limit x)) (limited_above left (reading r m limit x) over));
  }

  pub read_none : {e : Ended} → r ≡ 1 → left ≡ 0 → Unnamed (as_refused TooManyLeaves 0 left) e → ReadsValues m r limit left x ys e
  read_none q none u = read_over (omega (arith, leaves_are (omega arith))) u

-- ---- order 2 and above

-- the rounds of the values in the front of xs
module _ (m r limit left : ℕ) (xs : List ℤ) where
  abbrev lower : List ℤ → Outcome
  lower = reading (r - 1) (m - 1) limit

  abbrev x : List ℤ
  x = front_of (2 ^ m) xs

  abbrev after : ℕ → List ℤ
  after k = values_after (m - 1) lower k x

  abbrev leaves_in : ℕ → ℕ
  leaves_in k = leaves_after (m - 1) lower k x

  -- after k rounds with `used` leaves
  pub record Turn (ys : List ℤ) (k used : ℕ) : Type 0 where
    pub above : 2 ≤ r
    pub ready : Ready m r left xs
    pub long : length ys ≡ length xs
    pub many : k ≤ limit
    pub few : used ≤ left
    pub counted : used ≡ leaves_in k
    pub front : (p : ℕ) → p < 2 ^ m → at ys p ≡ at (after k) p

  pub turn_first : 2 ≤ r → Ready m r left xs → Turn xs 0 0
  turn_first h ready = record {
    above = h;
    ready = ready;
    long = refl;
    many = omega arith;
    few = omega arith;
    counted = sym (leaves_none (m - 1) lower x);
    front = λ p l. sym (get_or-take (2 ^ m) xs p (pos 0) l) ∙ ap (λ (y : List ℤ). at y p) (sym (values_none (m - 1) lower x));
  }

  module _ {ys : List ℤ} {k used : ℕ} (turn : Turn ys k used) where
    up : suc (m - 1) ≡ m
    up = omega (arith, turn.ready.some)

    power : 2 ^ suc (m - 1) ≡ 2 ^ m
    power = ap (λ (j : ℕ). 2 ^ j) up

    room_ys : 2 ^ m ≤ length ys
    room_ys = omega (arith, turn.long, turn.ready.room)

    is_block : IsBlock m (after k)
    is_block =
        subst (λ (j : ℕ). IsBlock j (after k)) up
        (after_block (m - 1) lower k x (subst (λ (j : ℕ). IsBlock j x) (sym up) (front_block m xs turn.ready.values.room)))

    front_ys : front_of (2 ^ m) ys ≡ after k
    front_ys = front_is ys is_block room_ys turn.front

    -- what a round asks
    pub turn_ready : Ready (suc (m - 1)) (suc (r - 1)) (left - used) ys × (1 ≤ r - 1)
    turn_ready = (
      record {
        some = omega arith;
        small = omega (arith, turn.ready.small, up);
        order = omega (arith, turn.ready.order, turn.above, up);
        room = omega (arith, power, turn.ready.room, turn.long);
        values = subst (λ (j : ℕ). Values j ys) (sym power)
            (front_values (after_range (m - 1) lower k x (front_range turn.ready.values)) room_ys turn.front);
        few = omega (arith, turn.ready.few);
      },
      omega (arith, turn.above),
    )

    -- the round was made
    module _ {zs : List ℤ} {c : Option Count} (more : k < limit) (renewed : Renewed (m - 1) (left - used) lower ys zs c) where
      abbrev leaves : ℕ
      leaves = round_leaves (m - 1) lower (after k)

      front_here : front_of (2 ^ suc (m - 1)) ys ≡ after k
      front_here = ap (λ (j : ℕ). front_of j ys) power ∙ front_ys

      pub turn_exhausted : {us : List ℤ} {e : Ended} → c ≡ None → Unnamed (as_refused TooManyLeaves 0 left) e → ReadsValues m r limit left x us e
      turn_exhausted {us} q u =
          read_over r m limit left x us
          (omega (
            arith,
            turn.few,
            turn.counted,
            spent (left - used) leaves (abstained (m - 1) lower (after k)) (rw front_here at renewed.said) q,
            leaves_more (m - 1) lower k x,
            leaves_prefix (m - 1) lower limit (suc k) x more,
            ap leaves_of (reading_above r m limit x turn.above) ∙ ended_leaves m r (after limit) limit (leaves_in limit),
          )) u

      module _ (d : Count) (is : c ≡ Some d) where
        enough : (d.leaves ≡ leaves) × (leaves ≤ left - used) × (d.abstained ≡ abstained (m - 1) lower (after k))
        enough = counted (left - used) leaves (abstained (m - 1) lower (after k)) (rw front_here at renewed.said) d is

        pub turn_few : used + d.leaves ≤ left
        turn_few = omega (arith, enough, turn.few)

        pub turn_more : Turn zs (k + 1) (used + d.leaves)
        turn_more = rw (add-one k) (record {
          above = turn.above;
          ready = turn.ready;
          long = renewed.long ∙ turn.long;
          many = more;
          few = turn_few;
          counted = omega (arith, enough, turn.counted, leaves_more (m - 1) lower k x);
          front = λ p l.
              renewed.values (rw front_here enough.1) p (omega (arith, power))
              ∙ ap (λ (y : List ℤ). at (updated (m - 1) lower y) p) front_here
              ∙ ap (λ (y : List ℤ). at y p) (sym (values_more (m - 1) lower k x));
        })

    -- the rounds are used up
    pub turn_last : k ≡ limit → {zs : List ℤ} {e : Ended} → Read (2 ^ m) (ended m r (front_of (2 ^ m) ys) limit used) zs e.answer
        → e.place ≡ place_in (ended m r (front_of (2 ^ m) ys) limit used) (lowest_zero m (front_of (2 ^ m) ys)) → ReadsValues m r limit left x zs e
    turn_last last {zs} {e} read place =
        let values_are : front_of (2 ^ m) ys ≡ after limit = front_ys ∙ ap after last in
        let whole : ended m r (front_of (2 ^ m) ys) limit used ≡ reading r m limit x =
        ap₂ (λ (y : List ℤ) (l : ℕ). ended m r y limit l) values_are (turn.counted ∙ ap leaves_in last) ∙ sym (reading_above r m limit x turn.above) in
        let within : limited left (reading r m limit x) ≡ reading r m limit x =
        limited_within left (reading r m limit x) (omega (arith, turn.few, ap leaves_of (sym whole) ∙ ended_leaves m r (front_of (2 ^ m) ys) limit used)) in
        record {
          read = rw within (rw whole at read);
          place = place ∙ ap₂ place_in (whole ∙ sym within) (ap (lowest_zero m) values_are ∙ sym (place_above r m limit x));
        }

-- a round whose directions are read at order 1
pub leaf_lower : {m left : ℕ} {xs ys : List ℤ} {c : Option Count} (r limit : ℕ) → r ≡ 1 → Renewed m left (λ x. order1 m (at x)) xs ys c
    → Renewed m left (reading r m limit) xs ys c
unfolding reading
leaf_lower {m} {left} {xs} {ys} {c} r limit e h = rw e h

-- what a round of a reading asks
pub ready_rounded : {m r left : ℕ} {xs : List ℤ} → Ready (suc m) (suc r) left xs → 1 ≤ r → Rounded m xs
ready_rounded h some = record {
  some = omega (arith, h.order);
  few = omega (arith, h.small);
  room = omega (arith, h.room);
  values = h.values;
}

-- The loop of a round over its directions, each read at order 2 or above. Assumes nothing.
use Prim.Native.Nat.{ℕ, suc, ◌+◌, ◌-◌, ◌*◌, ◌^◌, ◌≤◌, ◌<◌}
use native.Mathlib.Numerals.{add-one}
use native.Mathlib.Omega.{arith}
use mathlib.Core.Path.{◌≡◌, refl, sym, ap, ap₂, subst, ◌∙◌}
use mathlib.Core.List.{List}
use lib.ListN.{length}
use lib.IntN.{ℤ, pos}
use borrow.Rule.Slice.PartMut.{put_mid}
use Rattle.words.specs.Parts.{part_length, at-part_of, back_length, back_below, back_within}
use Rattle.words.specs.Written.{Written}
use Rattle.area.specs.Area.{at, SameFront}
use Rattle.rule.specs.Reading.{Outcome, abstains, leaves_of}
use Rattle.rule.specs.Decoding.{limited}
use Rattle.rule.proofs.DecodingLaws.{limited_within}
use Rattle.told.specs.Told.{numbers_in}
use Rattle.steps.specs.Answers.{count_is, counted, limited_numbered, spent}
use Rattle.steps.specs.Steps.{count_in, count_of, Voter, done}
use Rattle.steps.specs.declared.Count.{Count}
use Rattle.std.specs.Prelude.{Option, None, Some}
use Rattle.confidences.specs.Confidences.{project_values, reading, round_leaves}
use Rattle.confidences.specs.Confidences as confidences
use Rattle.confidences.proofs.Range.{project_range}
use Rattle.confidences.proofs.Rounds.{leaves_all, leaves_to_more, leaves_to_none, leaves_to_prefix, project_block}
use Rattle.confidences.specs.FirstDirections.{leaves_to}
use Rattle.confidences.proofs.ValueLaws.{front_is, front_values, same_front}
use Rattle.confidences.specs.Values.{Projects, Sums, front_of}
use Rattle.value_orders.specs.declared.ends.Ended.{Ended}
use Rattle.value_readings.specs.AnswerLaws.{Answered, answer_asks, answer_more}
use Rattle.value_readings.specs.Polls.{Heard, Polled, Renewed, Rounded, new_at, part_of}
use Rattle.value_readings.specs.PollLaws.{poll_first, poll_last, poll_projects, poll_range, poll_sums, polled_few, polled_from, polled_then, round_spent, written_front}
use Rattle.value_readings.specs.Answers.{reading_unlimited}
use Rattle.value_readings.specs.Readings.{Ready, ReadsValues}
use Rattle.value_readings.proofs.Turns.{ready_rounded}

-- ---- a round

-- exponent, order and round limit of its readings, the leaves left, and the area with the sums cleared
pub record Round : Type 0 where
  pub m : ℕ
  pub r : ℕ
  pub limit : ℕ
  pub left : ℕ
  pub area : List ℤ

abbrev pub lower : Round → List ℤ → Outcome
lower f = reading f.r f.m f.limit

-- its values
abbrev pub values_of : Round → List ℤ
values_of f = front_of (2 ^ suc f.m) f.area

-- what it was given
pub record From (f : Round) (xs : List ℤ) : Type 0 where
  pub order : f.r ≤ f.m
  pub cap : f.left ≤ 1000000
  pub given : Rounded f.m xs
  pub cleared : Written (pos 0) (2 ^ suc f.m) (2 ^ suc f.m) (λ p. pos 0) xs f.area

-- after i directions with `used` leaves, of which `absent` abstained
pub record Progress (f : Round) (ys : List ℤ) (i used absent : ℕ) : Type 0 where
  pub polled : Polled f.m (lower f) 0 i f.area ys absent
  pub counted : used ≡ leaves_to f.m (lower f) (values_of f) i
  pub few : used ≤ f.left

module _ {f : Round} {xs : List ℤ} (from : From f xs) where
  open f use {m, area}

  rounded : Rounded m area
  rounded = (poll_first (lower f) from.given from.cleared).poll.round

  pub progress_none : Progress f area 0 0 0
  progress_none =
      let p = (poll_first (lower f) from.given from.cleared).poll in
      record {
        polled = record { poll = p; front = record { long = refl; same = λ q l. refl }; silent = omega arith };
        counted = sym (leaves_to_none m (lower f) (values_of f));
        few = omega arith;
      }

  -- direction i + 1 is next
  module _ {ys : List ℤ} {i used absent : ℕ} (progress : Progress f ys i used absent) (more : i < 2 ^ suc m - 1) where
    pub next_projects : {c : ℕ} → c ≡ 4 * 2 ^ m → Projects m (i + 1) c ys
    next_projects e =
        let p = progress.polled.poll in
        poll_projects p (record { long = refl; same = λ q l. refl }) (omega arith) (omega arith) (omega arith) (omega (arith, p.round.room))

-- what is lent from place c on
abbrev pub rest : ℕ → List ℤ → List ℤ
rest c zs = part_of c (length zs - c) zs

-- the projection of direction i + 1 stands at place c, from where on the area is lent to its reading
pub record Lent (f : Round) (xs ys zs : List ℤ) (i used absent c : ℕ) : Type 0 where
  pub from : From f xs
  pub progress : Progress f ys i used absent
  pub more : i < 2 ^ suc f.m - 1
  pub place : c ≡ 4 * 2 ^ f.m
  pub projected : Written (pos 0) c (2 ^ f.m) (at (project_values f.m (i + 1) (front_of (2 ^ suc f.m) ys))) ys zs

module _ {f : Round} {xs ys zs : List ℤ} {i used absent c : ℕ} (lent : Lent f xs ys zs i used absent c) where
  open f use {m, r, limit, left, area}
  open lent use {from, progress, more, place, projected}

  abbrev x : List ℤ
  x = front_of (2 ^ suc m) ys

  abbrev v : List ℤ
  v = project_values m (suc i) x

  room_zs : 8 * 2 ^ m ≤ length zs
  room_zs = omega (arith, projected.long, progress.polled.poll.round.room)

  lent_fits : c + (length zs - c) ≤ length zs
  lent_fits = omega (arith, room_zs)

  long_rest : length (rest c zs) ≡ length zs - c
  long_rest = part_length (pos 0) c (length zs - c) zs lent_fits

  at-rest : (q : ℕ) → q < 2 ^ m → at (rest c zs) q ≡ at v q
  at-rest q h =
      at-part_of (pos 0) c (length zs - c) zs lent_fits q (omega (arith, room_zs))
      ∙ projected.within q h
      ∙ ap (λ (b : ℕ). at (project_values m b x) q) (add-one i)

  pub lent_ready : Ready m r (left - used) (rest c zs)
  lent_ready = record {
    some = from.given.some;
    small = omega (arith, from.given.few);
    order = from.order;
    room = omega (arith, long_rest, room_zs);
    values = front_values (project_range x (poll_range progress.polled.poll) m (suc i)) (omega (arith, long_rest, room_zs)) at-rest;
    few = omega (arith, from.cap);
  }

  values_here : front_of (2 ^ m) (rest c zs) ≡ v
  values_here = front_is (rest c zs) (project_block m (suc i) x) (omega (arith, long_rest, room_zs)) at-rest

-- the area as its reading leaves it
abbrev pub back : ℕ → List ℤ → List ℤ → List ℤ
back c zs us = put_mid c (length zs - c) zs us

-- its reading came back
pub record Came (f : Round) (xs ys zs us : List ℤ) (i used absent c : ℕ) (told : Ended) : Type 0 where
  pub lent : Lent f xs ys zs i used absent c
  pub same : length us ≡ length (rest c zs)
  pub reads : ReadsValues f.m f.r f.limit (f.left - used) (front_of (2 ^ f.m) (rest c zs)) us told

-- the same from what the code knows, with n for 2^m
abbrev pub round_of : (m r limit left : ℕ) → List ℤ → Round
round_of m r limit left ys = record { m = m; r = r; limit = limit; left = left; area = ys }

module _ {m r left n : ℕ} {xs ws : List ℤ} (limit : ℕ) (ready : Ready (suc m) (suc r) left xs) (some : 1 ≤ r) (size : n ≡ 2 ^ m)
    (cleared : Written (pos 0) (2 ^ suc m) (2 ^ suc m) (λ p. pos 0) xs ws) where
  pub from_of : From (round_of m r limit left ws) xs
  from_of = record { order = omega (arith, ready.order); cap = ready.few; given = ready_rounded ready some; cleared = cleared }

  module _ {ys zs : List ℤ} {i used absent : ℕ} (progress : Progress (round_of m r limit left ws) ys i used absent) (more : i < 2 * n - 1)
      (projected : Written (pos 0) (4 * n) (2 ^ m) (at (project_values m (i + 1) (front_of (2 ^ suc m) ys))) ys zs) where
    pub lent_of : Lent (round_of m r limit left ws) xs ys zs i used absent (4 * n)
    lent_of = record { from = from_of; progress = progress; more = omega (arith, size); place = omega (arith, size); projected = projected }

    pub came_of : {us : List ℤ} {told : Ended} → length us ≡ length (rest (4 * n) zs)
        → ReadsValues m r limit (left - used) (front_of (2 ^ m) (rest (4 * n) zs)) us told
        → Came (round_of m r limit left ws) xs ys zs us i used absent (4 * n) told
    came_of same reads = record { lent = lent_of; same = same; reads = reads }

module _ {f : Round} {xs ys zs us : List ℤ} {i used absent c : ℕ} {told : Ended} (came : Came f xs ys zs us i used absent c told) where
  open f use {m, r, limit, left, area}
  open came use {lent, same, reads}
  open lent use {from, progress, more, place, projected}

  -- the outcome, and under its leaf limit
  abbrev o : Outcome
  o = confidences.read m (lower f) (front_of (2 ^ suc m) ys) i

  long_us : length us ≡ length zs - c
  long_us = same ∙ long_rest lent

  before : SameFront (4 * 2 ^ m) ys (back c zs us)
  before = record {
    long = back_length (pos 0) c (length zs - c) zs (lent_fits lent) us long_us ∙ projected.long;
    same = λ p h. back_below (pos 0) c (length zs - c) zs (lent_fits lent) us long_us p (omega arith) ∙ projected.below p (omega arith);
  }

  pub came_answered : Answered m ys (back c zs us) us told.answer (limited (left - used) o)
  came_answered = record {
    same = before;
    decoded = λ q h.
        ap (λ (e : ℕ). at (back c zs us) (e + q)) (sym place)
        ∙ back_within (pos 0) c (length zs - c) zs (lent_fits lent) us long_us q (omega (arith, room_zs lent));
    numbered = limited_numbered (left - used) o (reading_unlimited r m limit (v lent));
    said = rw (values_here lent) at reads.read.said;
    holds = rw (values_here lent) at reads.read.word;
  }

  pub came_asks : Projects m (i + 1) (4 * 2 ^ m) (back c zs us) × (Sums (2 ^ suc m) (back c zs us) × Voter m told.answer (back c zs us))
  came_asks = answer_asks progress.polled.poll more came_answered

  -- it is heard, and its leaves counted
  module _ {ts : List ℤ} {count : Option Count} (counts : count ≡ count_in (numbers_in told.answer)) (heard : Heard m (i + 1) told.answer (back c zs us) ts) where
    counts_is : count ≡ count_of (left - used) (leaves_of o) (abstains o)
    counts_is = counts ∙ ap count_in came_answered.said ∙ count_is (left - used) o (reading_unlimited r m limit (v lent))

    front_same : front_of (2 ^ suc m) ys ≡ values_of f
    front_same = same_front progress.polled.front (rounded from).values.room

    leaves_here : leaves_to m (lower f) (values_of f) (suc i) ≡ used + leaves_of o
    leaves_here =
        leaves_to_more m (lower f) (values_of f) i
        ∙ ap₂ (λ (a : ℕ) (y : List ℤ). a + leaves_of (confidences.read m (lower f) y i)) (sym progress.counted) (sym front_same)

    pub heard_long : length ts ≡ length area
    heard_long = heard.front.long ∙ before.long ∙ progress.polled.front.long

    -- the leaves of the directions up to this one are more than were left, and so are the round's
    pub heard_over : count ≡ None → Renewed m left (lower f) xs ts None
    heard_over e =
        let same_values : values_of f ≡ front_of (2 ^ suc m) xs = same_front (written_front from.cleared (omega arith)) from.given.values.room in
        round_spent
        (subst (λ (y : List ℤ). left < round_leaves m (lower f) y) same_values
        (omega (
          arith,
          spent (left - used) (leaves_of o) (abstains o) counts_is e,
          progress.few,
          leaves_here,
          leaves_to_prefix m (lower f) (values_of f) (suc i) (omega arith),
        )))
        (heard_long ∙ from.cleared.long)

    module _ (d : Count) (e : count ≡ Some d) where
      enough : (d.leaves ≡ leaves_of o) × (leaves_of o ≤ left - used) × (d.abstained ≡ abstains o)
      enough = counted (left - used) (leaves_of o) (abstains o) counts_is d e

      within : limited (left - used) o ≡ o
      within = limited_within (left - used) o enough.1

      pub heard_few : used + d.leaves ≤ left
      heard_few = omega (arith, enough, progress.few)

      polled_next : Polled m (lower f) 0 (i + 1) area ts (absent + d.abstained)
      polled_next =
          polled_then (rounded from) progress.polled
          (subst (Polled m (lower f) i (i + 1) ys ts) (ap abstains within ∙ sym enough.2) (answer_more progress.polled.poll more came_answered within heard))

      pub heard_absent : absent + d.abstained ≤ 1023
      heard_absent = polled_few polled_next

      pub heard_more : Progress f ts (i + 1) (used + d.leaves) (absent + d.abstained)
      heard_more = record {
        polled = polled_next;
        counted = omega (arith, enough, leaves_here, ap (leaves_to m (lower f) (values_of f)) (add-one i));
        few = heard_few;
      }

-- every direction was heard
module _ {f : Round} {xs ys : List ℤ} {i used absent : ℕ} (from : From f xs) (progress : Progress f ys i used absent) (end : 2 ^ suc f.m - 1 ≤ i) where
  open f use {m, left, area}

  last : i ≡ 2 ^ suc m - 1
  last = omega (arith, progress.polled.poll.many)

  pub last_asks : (m ≤ 9) × (8 * 2 ^ m ≤ length ys) × Sums (2 ^ suc m) ys
  last_asks = let p = progress.polled.poll in (p.round.few, p.round.room, poll_sums p)

  pub last_renewed : {us : List ℤ} → Written (pos 0) 0 (2 ^ suc m) (new_at m absent ys) ys us → Renewed m left (lower f) xs us (done used absent)
  last_renewed new =
      let same_values : values_of f ≡ front_of (2 ^ suc m) xs = same_front (written_front from.cleared (omega arith)) from.given.values.room in
      poll_last from.given (rw last at (polled_from from.given from.cleared progress.polled))
      (progress.counted ∙ ap₂ (λ (y : List ℤ) (j : ℕ). leaves_to m (lower f) y j) same_values last ∙ sym (leaves_all m (lower f) (front_of (2 ^ suc m) xs)))
      progress.few new

-- A round in the area: what its loop over the directions keeps, and what a direction does. Assumes nothing.
use Rattle.std.specs.Prelude.{Option, None, Some, Ok, Err}
use Prim.Native.Nat.{ℕ, suc, ◌+◌, ◌-◌, ◌*◌, ◌%◌, ◌^◌, ◌≤◌, ◌<◌}
use native.Mathlib.Omega.{arith}
use native.Mathlib.Numerals.{add-one}
use mathlib.Core.Path.{◌≡◌, refl, sym, ap, ap₂, subst, ◌∙◌}
use mathlib.Core.Bool.{true}
use mathlib.Core.List.{List}
use lib.ListN.{length, take, drop, replicate, length-replicate, get_or-replicate}
use lib.IntN.{ℤ, pos, nat_abs, ◌+ℤ◌, pos-+ℤ-pos}
use borrow.Author.Tests.{le-ltb, lt-ltb}
use borrow.Rule.Slice.PartMut.{put_mid}
use Rattle.words.specs.Parts.{part_length, at-part_of, back_length, back_below, back_within}
use Rattle.words.specs.Sum.{total, sum_below}
use Rattle.words.specs.SumLaws.{sum_most, sum_prefix}
use Rattle.words.specs.Word.{bit, IsWord}
use Rattle.words.specs.Written.{Written}
use Rattle.area.specs.Area.{at, IsBit, Bits, Front, SameFront, word_of}
use Rattle.area.proofs.AreaLaws.{bits_at, is_bit, front_bits, front_word, front_of, front_kept}
use Rattle.direction.specs.Direction.{project, coset_of}
use Rattle.direction.proofs.Members.{number_lt}
use Rattle.direction.proofs.Projected.{word_project}
use Rattle.cosets.specs.Votes.{Projects, Tally, cast_vote}
use Rattle.rule.specs.Reading.{Outcome, abstained, abstains, leaves_of, reading, round_leaves, vote, votes}
use Rattle.rule.specs.Decoding.{limited}
use Rattle.rule.proofs.DecodingLaws.{limited_within}
use Rattle.rule.proofs.Rounds.{vote_once}
use Rattle.told.specs.Told.{numbers_of, Verdict, numbers_in, Holds, Read, Kept}
use Rattle.told.specs.declared.Told.{Told}
use Rattle.steps.specs.Steps.{done, count_in, count_of, vote_of, Voter, Unmoved}
use Rattle.steps.specs.Answers.{Numbered, by_answer, count_is, counted, limited_numbered, spent}
use Rattle.steps.specs.declared.Count.{Count}
use Rattle.readings.specs.Answers.{reading_unlimited}
use Rattle.readings.specs.Readings.{Ready, Voted}

-- a round: exponent, order and round limit of its readings, the leaves left, the word of exponent m + 1, and the length of the area
pub record Round : Type 0 where
  pub m : ℕ
  pub r : ℕ
  pub limit : ℕ
  pub left : ℕ
  pub word : List ℕ
  pub size : ℕ

-- direction i + 1 is read
abbrev read_at : Round → ℕ → Outcome
read_at f i = reading f.r f.m f.limit (project f.m (suc i) f.word)

-- the votes of the first i directions on place p, and their leaves
abbrev votes_to : Round → ℕ → ℕ → ℕ
votes_to f i p = sum_below i (λ j. vote (suc j) (project f.m (suc j) f.word) (read_at f j) p)

abbrev leaves_to : Round → ℕ → ℕ
leaves_to f i = sum_below i (λ j. leaves_of (read_at f j))

-- how many of them abstain
abbrev absent_to : Round → ℕ → ℕ
absent_to f i = sum_below i (λ j. abstains (read_at f j))

-- after i directions with `used` leaves, of which `absent` abstained
pub record Poll (f : Round) (ys : List ℤ) (i used absent : ℕ) : Type 0 where
  pub long : length ys ≡ f.size
  pub many : i ≤ 2 ^ suc f.m - 1
  pub few : used ≤ f.left
  pub counted : used ≡ leaves_to f i
  pub missed : absent ≡ absent_to f i
  pub word : Front (2 ^ suc f.m) f.word ys
  pub voted : (p : ℕ) → p < 2 ^ suc f.m → at ys (2 ^ suc f.m + p) ≡ pos (votes_to f i p)

-- the round was begun in the area xs
pub record From (f : Round) (xs : List ℤ) : Type 0 where
  pub bits : Bits (2 ^ suc f.m) xs
  pub long : length xs ≡ f.size
  pub word : f.word ≡ word_of (2 ^ suc f.m) xs

-- the round of the word in the front of xs
abbrev pub round_of : (m r limit left : ℕ) → List ℤ → Round
round_of m r limit left xs = record { m = m; r = r; limit = limit; left = left; word = word_of (2 ^ suc m) xs; size = length xs }

-- ---- the start: zeros where the votes are

-- the k numbers from place n on were filled with zeros
pub record Zeroed (m n k : ℕ) (xs zs : List ℤ) : Type 0 where
  pub start : n ≡ 2 ^ suc m
  pub many : k ≡ 2 ^ suc m
  pub room : 4 * 2 ^ suc m ≤ length xs
  pub filled : zs ≡ replicate (length (take k (drop n xs))) (pos 0)

module _ {m n k : ℕ} {xs zs : List ℤ} (zeroed : Zeroed m n k xs zs) where
  fits : n + k ≤ length xs
  fits = omega arith

  long_part : length (take k (drop n xs)) ≡ k
  long_part = part_length (pos 0) n k xs fits

  long_zeros : length zs ≡ k
  long_zeros = ap length zeroed.filled ∙ length-replicate _ _ ∙ long_part

  pub start_long : length (put_mid n k xs zs) ≡ length xs
  start_long = back_length (pos 0) n k xs fits zs long_zeros

  start_front : {w : List ℕ} → Front (2 ^ suc m) w xs → Front (2 ^ suc m) w (put_mid n k xs zs)
  start_front word = front_kept word (λ p h. back_below (pos 0) n k xs fits zs long_zeros p (omega arith))

  start_zero : (p : ℕ) → p < 2 ^ suc m → at (put_mid n k xs zs) (2 ^ suc m + p) ≡ pos 0
  start_zero p h =
      ap (λ (j : ℕ). at (put_mid n k xs zs) (j + p)) (sym zeroed.start)
      ∙ back_within (pos 0) n k xs fits zs long_zeros p (omega arith)
      ∙ ap (λ (l : List ℤ). at l p) zeroed.filled
      ∙ get_or-replicate (length (take k (drop n xs))) p (pos 0) (pos 0) (omega (arith, long_part))

  module _ (r limit left : ℕ) (bits : Bits (2 ^ suc m) xs) where
    room_here : 2 ^ suc m ≤ length (put_mid n k xs zs)
    room_here = omega (arith, start_long)

    pub start_from : From (round_of m r limit left (put_mid n k xs zs)) xs
    start_from = record { bits = bits; long = sym start_long; word = front_word room_here (start_front (front_of bits)) }

    pub start_poll : Poll (round_of m r limit left (put_mid n k xs zs)) (put_mid n k xs zs) 0 0 0
    unfolding total
    start_poll = record {
      long = refl;
      many = omega arith;
      few = omega arith;
      counted = refl;
      missed = refl;
      word = front_of (front_bits room_here (start_front (front_of bits)));
      voted = start_zero;
    }

-- ---- a direction

-- direction i + 1 is next
pub record Stage (f : Round) (ys : List ℤ) (i used absent : ℕ) : Type 0 where
  pub some : 1 ≤ f.m
  pub small : f.m ≤ 9
  pub order : f.r ≤ f.m
  pub cap : f.left ≤ 1000000
  pub room : 8 * 2 ^ f.m ≤ f.size
  pub poll : Poll f ys i used absent
  pub more : i < 2 ^ suc f.m - 1

module _ {f : Round} {ys : List ℤ} {i used absent : ℕ} (stage : Stage f ys i used absent) where
  projects_of : {us : List ℤ} → length us ≡ f.size → Front (2 ^ suc f.m) f.word us → Projects f.m (i + 1) us
  projects_of e word = record {
    direction = record { small = stage.small; some = omega arith; under = omega arith };
    room = omega arith;
    bits = front_bits (omega arith) word;
  }

  pub stage_projects : Projects f.m (i + 1) ys
  stage_projects = projects_of stage.poll.long stage.poll.word

-- what is lent from place a on
abbrev pub rest : ℕ → List ℤ → List ℤ
rest a zs = take (length zs - a) (drop a zs)

-- its projection stands at place a, from where on the area is lent to its reading
pub record Lent (f : Round) (ys zs : List ℤ) (i used absent a : ℕ) : Type 0 where
  pub stage : Stage f ys i used absent
  pub projected : Written (pos 0) (4 * 2 ^ f.m) (2 ^ f.m) (λ q. pos (bit (project f.m (i + 1) (word_of (2 ^ suc f.m) ys)) q)) ys zs
  pub place : a ≡ 4 * 2 ^ f.m

module _ {f : Round} {ys zs : List ℤ} {i used absent a : ℕ} (lent : Lent f ys zs i used absent a) where
  open f use {m, r, limit, left, word, size}
  open lent use {stage, projected, place}

  is_projected : IsWord m (project m (suc i) word)
  is_projected = word_project m (suc i) word

  long_here : length zs ≡ size
  long_here = projected.long ∙ stage.poll.long

  lent_fits : a + (length zs - a) ≤ length zs
  lent_fits = omega (arith, long_here)

  long_rest : length (rest a zs) ≡ length zs - a
  long_rest = part_length (pos 0) a (length zs - a) zs lent_fits

  at_projected : (q : ℕ) → q < 2 ^ m → at zs (4 * 2 ^ m + q) ≡ pos (bit (project m (suc i) word) q)
  at_projected q h =
      projected.within q h
      ∙ ap₂ (λ (b : ℕ) (u : List ℕ). pos (bit (project m b u) q)) (add-one i) (front_word (omega arith) stage.poll.word)

  front_here : Front (2 ^ m) (project m (suc i) word) (rest a zs)
  front_here = record {
    size = is_projected.size;
    each = λ q h.
        at-part_of (pos 0) a (length zs - a) zs lent_fits q (omega (arith, long_here))
        ∙ ap (λ (j : ℕ). at zs (j + q)) place
        ∙ at_projected q h;
    bits = λ q h. is_projected.bits q;
  }

  room_rest : 4 * 2 ^ m ≤ length (rest a zs)
  room_rest = omega (arith, long_rest, long_here)

  pub lent_ready : Ready m r (left - used) (rest a zs)
  lent_ready = record {
    some = stage.some;
    small = omega arith;
    order = stage.order;
    room = room_rest;
    bits = front_bits (omega (arith, room_rest)) front_here;
    few = omega arith;
  }

  word_here : word_of (2 ^ m) (rest a zs) ≡ project m (suc i) word
  word_here = front_word (omega (arith, room_rest)) front_here

-- its reading came back with an answer
pub record Answered (f : Round) (ys zs us : List ℤ) (i used absent a : ℕ) (told : Told) : Type 0 where
  pub lent : Lent f ys zs i used absent a
  pub same : length us ≡ length (rest a zs)
  pub read : Read (2 ^ f.m) (limited (f.left - used) (reading f.r f.m f.limit (word_of (2 ^ f.m) (rest a zs)))) us told.answer
  pub kept : Kept (2 ^ f.m) (rest a zs) us told

-- the area then
abbrev pub back : ℕ → List ℤ → List ℤ → List ℤ
back a zs us = put_mid a (length zs - a) zs us

-- a direction has no vote where it would cast none
no_vote : (m b : ℕ) (xs : List ℤ) (p : ℕ) (v : Verdict) → cast_vote m b xs p ≡ 0 → vote_of m b xs v p ≡ 0
no_vote m b xs p (Ok w) e = e
no_vote m b xs p (Err u) e = refl

module _ {f : Round} {ys zs us : List ℤ} {i used absent a : ℕ} {told : Told} (answered : Answered f ys zs us i used absent a told) where
  open f use {m, r, limit, left, word, size}
  open answered use {lent, same, read, kept}
  open lent use {stage, projected, place}

  abbrev answer : Verdict
  answer = told.answer

  -- the outcome of the reading under its leaf limit
  abbrev o : Outcome
  o = limited (left - used) (read_at f i)

  long_us : length us ≡ length zs - a
  long_us = same ∙ long_rest lent

  long_back : length (back a zs us) ≡ size
  long_back = back_length (pos 0) a (length zs - a) zs (lent_fits lent) us long_us ∙ long_here lent

  said : numbers_in answer ≡ numbers_of o
  said = rw (word_here lent) at read.said

  holds : Holds (2 ^ m) o us
  holds = rw (word_here lent) at read.word

  before_rest : (p : ℕ) → p < 4 * 2 ^ m → at (back a zs us) p ≡ at ys p
  before_rest p h = back_below (pos 0) a (length zs - a) zs (lent_fits lent) us long_us p (omega arith) ∙ projected.below p h

  front_back : Front (2 ^ suc m) word (back a zs us)
  front_back = front_kept stage.poll.word (λ p h. before_rest p (omega arith))

  at_decoded : (q : ℕ) → q < 2 ^ m → at (back a zs us) (4 * 2 ^ m + q) ≡ at us q
  at_decoded q h =
      ap (λ (j : ℕ). at (back a zs us) (j + q)) (sym place)
      ∙ back_within (pos 0) a (length zs - a) zs (lent_fits lent) us long_us q (omega (arith, long_here lent))

  votes_here : (p : ℕ) → p < 2 ^ suc m → at (back a zs us) (2 ^ suc m + p) ≡ pos (votes_to f i p)
  votes_here p h = before_rest (2 ^ suc m + p) (omega arith) ∙ stage.poll.voted p h

  votes_few : (p : ℕ) → votes_to f i p < i + 1
  votes_few p = omega (arith, sum_most i 1 (λ j. vote (suc j) (project m (suc j) word) (read_at f j) p) (λ j l. omega (arith, vote_once (suc j) (project m (suc j) word) (read_at f j) p)))

  numbered : Numbered o
  numbered = limited_numbered (left - used) (read_at f i) (reading_unlimited r m limit (project m (suc i) word))

  voter : Voter m answer (back a zs us)
  voter =
      by_answer (λ (v : Verdict) (x : Outcome). Holds (2 ^ m) x us → Voter m v (back a zs us))
      (λ d w h. record { decoded = λ q u. subst IsBit (sym (at_decoded q u ∙ h.each q u)) (is_bit _ (h.bits q u)) })
      (λ u h. tt) answer o numbered said holds

  coset_here : (p : ℕ) → p < 2 ^ suc m → coset_of (suc i) p < 2 ^ m
  coset_here p h = number_lt {b = suc i} (record { small = stage.small; some = omega arith; under = omega arith }) p h

  -- the vote, where the reading gave a word
  cast_is : (p : ℕ) (h : p < 2 ^ suc m)
      → cast_vote m (i + 1) (back a zs us) p ≡ (bit (project m (suc i) word) (coset_of (suc i) p) + nat_abs (at us (coset_of (suc i) p))) % 2
  cast_is p h =
      ap (λ (j : ℕ). cast_vote m j (back a zs us) p) (add-one i)
      ∙ ap₂ (λ (x : List ℕ) (z : ℤ). (bit (project m (suc i) x) (coset_of (suc i) p) + nat_abs z) % 2)
      (front_word (omega (arith, long_back)) front_back)
      (at_decoded (coset_of (suc i) p) (coset_here p h))

  -- where the word is as it was, each vote compares a bit with itself
  kept_vote : told.kept ≡ true → (p : ℕ) → p < 2 ^ suc m → cast_vote m (i + 1) (back a zs us) p ≡ 0
  kept_vote e p h =
      let q : ℕ = coset_of (suc i) p in
      let l : q < 2 ^ m = coset_here p h in
      omega (arith, cast_is p h, ap nat_abs ((kept.same e).same q l ∙ (front_here lent).each q l))

  pub answered_cast :
      Projects m (i + 1) (back a zs us)
      × (Tally (2 ^ suc m) (i + 1) (back a zs us) × (Voter m answer (back a zs us) × Unmoved m (i + 1) (back a zs us) told))
  answered_cast = (
    projects_of stage long_back front_back,
    (
      record {
        whole = λ p h. votes_here p h ∙ ap (λ (z : ℤ). pos (nat_abs z)) (sym (votes_here p h));
        few = λ p h. subst (λ (z : ℤ). nat_abs z < i + 1) (sym (votes_here p h)) (votes_few p);
      },
      (voter, record { none = λ e p h. no_vote m (i + 1) (back a zs us) p answer (kept_vote e p h) }),
    ),
  )

  vote_is : (p : ℕ) → p < 2 ^ suc m → vote_of m (i + 1) (back a zs us) answer p ≡ vote (suc i) (project m (suc i) word) o p
  vote_is p u =
      by_answer
      (λ (v : Verdict) (x : Outcome). Holds (2 ^ m) x us → vote_of m (i + 1) (back a zs us) v p ≡ vote (suc i) (project m (suc i) word) x p)
      (λ d w h.
      cast_is p u
      ∙ ap (λ (z : ℤ). (bit (project m (suc i) word) (coset_of (suc i) p) + nat_abs z) % 2) (h.each (coset_of (suc i) p) (coset_here p u)))
      (λ u h. refl) answer o numbered said holds

-- its votes are cast, and its leaves counted
pub record Cast (f : Round) (ys zs us ts : List ℤ) (i used absent a : ℕ) (told : Told) (count : Option Count) : Type 0 where
  pub answered : Answered f ys zs us i used absent a told
  pub counts : count ≡ count_in (numbers_in told.answer)
  pub votes : Written (pos 0) (2 ^ suc f.m) (2 ^ suc f.m)
      (λ p. at (back a zs us) (2 ^ suc f.m + p) +ℤ pos (vote_of f.m (i + 1) (back a zs us) told.answer p)) (back a zs us) ts

pub cast_of : {f : Round} {ys zs us ts : List ℤ} {i used absent a : ℕ} {told : Told} {count : Option Count} → Answered f ys zs us i used absent a told
    → count ≡ count_in (numbers_in told.answer)
    → Written (pos 0) (2 ^ suc f.m) (2 ^ suc f.m)
    (λ p. at (back a zs us) (2 ^ suc f.m + p) +ℤ pos (vote_of f.m (i + 1) (back a zs us) told.answer p)) (back a zs us) ts
    → Cast f ys zs us ts i used absent a told count
cast_of answered counts votes = record { answered = answered; counts = counts; votes = votes }

module _ {f : Round} {ys zs us ts : List ℤ} {i used absent a : ℕ} {told : Told} {count : Option Count}
    (cast : Cast f ys zs us ts i used absent a told count) where
  open f use {m, r, limit, left, word, size}
  open cast use {answered, counts, votes}

  poll : Poll f ys i used absent
  poll = answered.lent.stage.poll

  counts_is : count ≡ count_of (left - used) (leaves_of (read_at f i)) (abstains (read_at f i))
  counts_is = counts ∙ ap count_in (said answered) ∙ count_is (left - used) (read_at f i) (reading_unlimited r m limit (project m (suc i) word))

  pub cast_front : Front (2 ^ suc m) word ts
  cast_front = front_kept (front_back answered) votes.below

  pub cast_long : length ts ≡ size
  cast_long = votes.long ∙ long_back answered

  -- the leaves of the directions up to this one are more than were left, and so are the round's
  pub cast_over : count ≡ None → left < round_leaves m (reading r m limit) word
  unfolding round_leaves total
  cast_over e =
      omega (
        arith,
        spent (left - used) (leaves_of (read_at f i)) (abstains (read_at f i)) counts_is e,
        poll.counted,
        poll.few,
        answered.lent.stage.more,
        sum_prefix (2 ^ suc m - 1) (suc i) (λ j. leaves_of (read_at f j)) (omega arith),
      )

  module _ (d : Count) (e : count ≡ Some d) where
    enough : (d.leaves ≡ leaves_of (read_at f i)) × (leaves_of (read_at f i) ≤ left - used) × (d.abstained ≡ abstains (read_at f i))
    enough = counted (left - used) (leaves_of (read_at f i)) (abstains (read_at f i)) counts_is d e

    pub cast_few : used + d.leaves ≤ left
    cast_few = omega (arith, enough, poll.few)

    -- those that abstained are no more than the directions
    pub cast_absent : absent + d.abstained ≤ i + 1
    cast_absent =
        let once : (j : ℕ) → abstains (read_at f j) ≤ 1 = λ j. omega (arith, vote_once 0 word (read_at f j) 0) in
        omega (arith, enough, poll.missed, once i, sum_most i 1 _ (λ j h. once j))

    pub cast_more : Poll f ts (i + 1) (used + d.leaves) (absent + d.abstained)
    unfolding total
    cast_more = record {
      long = cast_long;
      many = omega (arith, answered.lent.stage.more);
      few = cast_few;
      counted = ap₂ (λ (x y : ℕ). x + y) poll.counted enough.0 ∙ ap (leaves_to f) (sym (add-one i));
      missed = ap₂ (λ (x y : ℕ). x + y) poll.missed enough.2 ∙ ap (absent_to f) (sym (add-one i));
      word = cast_front;
      voted = λ p u.
          votes.within p u
          ∙ ap₂ (λ (z : ℤ) (x : ℕ). z +ℤ pos x) (votes_here answered p u)
          (vote_is answered p u ∙ ap (λ (x : Outcome). vote (suc i) (project m (suc i) word) x p) (limited_within (left - used) (read_at f i) enough.1))
          ∙ pos-+ℤ-pos (votes_to f i p) (vote (suc i) (project m (suc i) word) (read_at f i) p)
          ∙ ap (λ (j : ℕ). pos (votes_to f j p)) (sym (add-one i));
    }

-- ---- the end

module _ {f : Round} {xs : List ℤ} (from : From f xs) where
  open f use {m, r, limit, left, word, size}

  kept : {ys : List ℤ} → length ys ≡ size → Front (2 ^ suc m) word ys → SameFront (2 ^ suc m) xs ys
  kept e w = record {
    long = e ∙ sym from.long;
    same = λ p h. w.each p h ∙ sym (bits_at from.bits p h ∙ ap (λ (u : List ℕ). pos (bit u p)) (sym from.word));
  }

  -- every direction was counted
  pub poll_done : {ys : List ℤ} {i used absent : ℕ} → Poll f ys i used absent → 2 ^ suc m - 1 ≤ i
      → Voted m left (reading r m limit) xs ys (done used absent)
  unfolding votes round_leaves abstained
  poll_done {ys} {i} {used} {absent} poll end =
      let e : i ≡ 2 ^ suc m - 1 = omega (arith, poll.many) in
      let all : used ≡ round_leaves m (reading r m limit) (word_of (2 ^ suc m) xs) = poll.counted ∙ ap (leaves_to f) e ∙ ap (round_leaves m (reading r m limit)) from.word in
      let missed : absent ≡ abstained m (reading r m limit) (word_of (2 ^ suc m) xs) = poll.missed ∙ ap (absent_to f) e ∙ ap (abstained m (reading r m limit)) from.word in
      record {
        said = subst (λ (l : ℕ). done used absent ≡ count_of left l (abstained m (reading r m limit) (word_of (2 ^ suc m) xs))) all (rw (le-ltb left used poll.few) (ap (done used) missed));
        kept = kept poll.long poll.word;
        tally = λ _ p h. poll.voted p h ∙ ap (λ (j : ℕ). pos (votes_to f j p)) e ∙ ap (λ (u : List ℕ). pos (votes m (reading r m limit) u p)) from.word;
      }

  -- there were not leaves enough
  pub poll_spent : {ys : List ℤ} → length ys ≡ size → Front (2 ^ suc m) word ys → left < round_leaves m (reading r m limit) word
      → Voted m left (reading r m limit) xs ys None
  poll_spent e w h =
      let over : left < round_leaves m (reading r m limit) (word_of (2 ^ suc m) xs) = subst (λ (u : List ℕ). left < round_leaves m (reading r m limit) u) from.word h in
      record {
        said = rw (lt-ltb left (round_leaves m (reading r m limit) (word_of (2 ^ suc m) xs)) over);
        kept = kept e w;
        tally = λ l. absurd (omega arith);
      }

-- ---- in the code

-- n numbers, half of the word, and the votes' zeros in the area xs
pub record Starting (m r left n : ℕ) (xs zs : List ℤ) : Type 0 where
  pub ready : Ready (suc m) (suc r) left xs
  pub some : 1 ≤ r
  pub number : n ≡ 2 ^ m
  pub filled : zs ≡ replicate (length (take (2 * (2 * n) - 2 * n) (drop (2 * n) xs))) (pos 0)

-- the area then
abbrev pub started : ℕ → List ℤ → List ℤ → List ℤ
started n xs zs = put_mid (2 * n) (2 * (2 * n) - 2 * n) xs zs

pub starting : {m r left n : ℕ} {xs zs : List ℤ} → Ready (suc m) (suc r) left xs → 1 ≤ r → n ≡ 2 ^ m
    → zs ≡ replicate (length (take (2 * (2 * n) - 2 * n) (drop (2 * n) xs))) (pos 0) → Starting m r left n xs zs
starting ready some number filled = record { ready = ready; some = some; number = number; filled = filled }

module _ {m r left n : ℕ} {xs zs : List ℤ} (s : Starting m r left n xs zs) where
  zeroed : Zeroed m (2 * n) (2 * (2 * n) - 2 * n) xs zs
  zeroed = record { start = omega (arith, s.number); many = omega (arith, s.number); room = s.ready.room; filled = s.filled }

  pub started_long : length (started n xs zs) ≡ length xs
  started_long = start_long zeroed

  pub started_from : (limit : ℕ) → From (round_of m r limit left (started n xs zs)) xs
  started_from limit = start_from zeroed r limit left s.ready.bits

  pub started_poll : (limit : ℕ) → Poll (round_of m r limit left (started n xs zs)) (started n xs zs) 0 0 0
  started_poll limit = start_poll zeroed r limit left s.ready.bits

  module _ {limit i used absent : ℕ} {ys : List ℤ} (poll : Poll (round_of m r limit left (started n xs zs)) ys i used absent) where
    pub started_done : 2 * n - 1 ≤ i → Voted m left (reading r m limit) xs ys (done used absent)
    started_done h = poll_done (started_from limit) poll (omega (arith, s.number))

    module _ (less : i < 2 * n - 1) where
      pub started_stage : Stage (round_of m r limit left (started n xs zs)) ys i used absent
      started_stage = record {
        some = omega (arith, s.some, s.ready.order);
        small = omega (arith, s.ready.small);
        order = omega (arith, s.ready.order);
        cap = s.ready.few;
        room = omega (arith, started_long, s.ready.room);
        poll = poll;
        more = omega (arith, s.number);
      }

      module _ {us : List ℤ} (projected : Written (pos 0) (4 * 2 ^ m) (2 ^ m) (λ q. pos (bit (project m (i + 1) (word_of (2 ^ suc m) ys)) q)) ys us) where
        pub started_lent : Lent (round_of m r limit left (started n xs zs)) ys us i used absent (2 * (2 * n))
        started_lent = record { stage = started_stage; projected = projected; place = omega (arith, s.number) }

        pub started_answered : {vs : List ℤ} {told : Told} → length vs ≡ length (rest (2 * (2 * n)) us)
            → Read (2 ^ m) (limited (left - used) (reading r m limit (word_of (2 ^ m) (rest (2 * (2 * n)) us)))) vs told.answer
            → Kept (2 ^ m) (rest (2 * (2 * n)) us) vs told → Answered (round_of m r limit left (started n xs zs)) ys us vs i used absent (2 * (2 * n)) told
        started_answered same read kept = record { lent = started_lent; same = same; read = read; kept = kept }

-- ---- a direction of the code's round was read and cast

module _ {m r left n limit i used absent : ℕ} {xs zs ys us vs : List ℤ} {told : Told} (ready : Ready (suc m) (suc r) left xs) (some : 1 ≤ r) (number : n ≡ 2 ^ m)
    (filled : zs ≡ replicate (length (take (2 * (2 * n) - 2 * n) (drop (2 * n) xs))) (pos 0))
    (poll : Poll (round_of m r limit left (started n xs zs)) ys i used absent) (less : i < 2 * n - 1)
    (projected : Written (pos 0) (4 * 2 ^ m) (2 ^ m) (λ q. pos (bit (project m (i + 1) (word_of (2 ^ suc m) ys)) q)) ys us)
    (same : length vs ≡ length (rest (2 * (2 * n)) us))
    (read : Read (2 ^ m) (limited (left - used) (reading r m limit (word_of (2 ^ m) (rest (2 * (2 * n)) us)))) vs told.answer)
    (kept : Kept (2 ^ m) (rest (2 * (2 * n)) us) vs told) where
  abbrev start : Starting m r left n xs zs
  start = starting ready some number filled

  pub heard : Answered (round_of m r limit left (started n xs zs)) ys us vs i used absent (2 * (2 * n)) told
  heard = started_answered start poll less projected same read kept

  pub heard_cast : {ts : List ℤ} {count : Option Count} → count ≡ count_in (numbers_in told.answer)
      → Written (pos 0) (2 ^ suc m) (2 ^ suc m)
      (λ p. at (back (2 * (2 * n)) us vs) (2 ^ suc m + p) +ℤ pos (vote_of m (i + 1) (back (2 * (2 * n)) us vs) told.answer p)) (back (2 * (2 * n)) us vs) ts
      → Cast (round_of m r limit left (started n xs zs)) ys us vs ts i used absent (2 * (2 * n)) told count
  heard_cast counts votes = cast_of heard counts votes

-- Directions of a round, read at order 1, one at a time and four. Assumes nothing.
use Prim.Native.Nat.{ℕ, zero, suc, ◌+◌, ◌-◌, ◌*◌, ◌/◌, ◌%◌, ◌^◌, ◌≤◌, ◌<◌}
use Rattle.std.proofs.Math.Decide.{ℕ_discrete}
use Rattle.std.proofs.Common.{add_assoc, mul-le-mul_right, suc-mul, zero-add, arith, subst, ◌∙◌, get_or-take, le-ltb, lt-ltb, ltb-false, ltb-true}
use Rattle.std.specs.Prelude.{◌≡◌, refl, Bool, true, false, cond, ltb, length, ℤ, pos, nat_abs}
use Rattle.std.proofs.Math.Path.{sym, ap, ap₂}
use mathlib.Core.List.{List}
use Rattle.std.proofs.Math.Arith.{digits_div, digits_mod}
use Rattle.std.specs.Int.Bits.{bit_xor}
use Rattle.std.proofs.lemmas.Nat.{xor_lt}
use Rattle.std.proofs.Math.IntN.{◌+ℤ◌, +ℤ_idl}
use Rattle.words.specs.Parts.{part_length, at-part_of}
use Rattle.words.specs.Sum.{total}
use Rattle.words.specs.SumLaws.{sum_ext, sum_same, sum_ℤ_ext}
use Rattle.words.specs.Written.{Written}
use Rattle.area.specs.Area.{at, SameFront}
use Rattle.direction.specs.Direction.{coset_of}
use Rattle.direction.proofs.Members.{number_lt}
use Rattle.hadamard.specs.Correlation.{constant_of, signed}
use Rattle.rule.proofs.Counts.{leaf_leaves, order1_leaf}
use Rattle.rule.specs.Reading.{Outcome, abstains, accepted, refused}
use Rattle.confidences.specs.Confidences.{project_values, read, round_leaves, share}
use Rattle.confidences.specs.InRange.{InRange}
use Rattle.confidences.proofs.Range.{project_range}
use Rattle.confidences.specs.Blocks.{IsBlock}
use Rattle.confidences.proofs.Rounds.{block_ext, project_block}
use Rattle.confidences.proofs.ValueLaws.{same_front, same_values}
use Rattle.confidences.specs.Values.{Projects, ProjectsFour, Sums, four_projected, front_of, heard_at}
use Rattle.value_steps.specs.Shares.{word_at, words_at}
use Rattle.value_orders.specs.Leaves.{Leaf}
use Rattle.value_readings.specs.Polls.{LeafAt, Next, Poll, Polled, ReadAt, leaf, part_of, silence, silences, together}
use Rattle.value_readings.specs.PollLaws.{front_then, poll_more, poll_projects, poll_range, poll_sums, written_front}

-- ---- a part of the area

part_is : (m c : ℕ) {v : List ℤ} (xs : List ℤ) → IsBlock m v → c + 2 ^ m ≤ length xs → ((q : ℕ) → q < 2 ^ m → at xs (c + q) ≡ at v q) → part_of c (2 ^ m) xs ≡ v
part_is m c xs hv room same =
    block_ext (record { size = part_length (pos 0) c (2 ^ m) xs room }) hv (λ q l. at-part_of (pos 0) c (2 ^ m) xs room q l ∙ same q l)

part_kept : (m c : ℕ) (xs ys : List ℤ) → c + 2 ^ m ≤ length xs → length ys ≡ length xs → ((q : ℕ) → q < 2 ^ m → at ys (c + q) ≡ at xs (c + q))
    → part_of c (2 ^ m) ys ≡ part_of c (2 ^ m) xs
part_kept m c xs ys room e same =
    part_is m c ys (record { size = part_length (pos 0) c (2 ^ m) xs room }) (omega arith) (λ q l. same q l ∙ sym (at-part_of (pos 0) c (2 ^ m) xs room q l))

-- values that stand in a part may be read
pub leaf_at : {m c : ℕ} {v xs : List ℤ} → 1 ≤ m → m ≤ 9 → InRange v → c + 2 ^ m ≤ length xs → ((q : ℕ) → q < 2 ^ m → at xs (c + q) ≡ at v q) → LeafAt m c xs
leaf_at some few range room same = record { some = some; few = few; room = room; small = λ q l. omega (arith, ap nat_abs (same q l), range.small q) }

-- and are
pub leaf_read : {m c : ℕ} {w : Bool} {v xs ys : List ℤ} → IsBlock m v → c + 2 ^ m ≤ length xs → ((q : ℕ) → q < 2 ^ m → at xs (c + q) ≡ at v q) → ReadAt m c xs ys w
    → Leaf (2 ^ m) (leaf m v) (part_of c (2 ^ m) ys) w
leaf_read {m} {c} {w} {v} {xs} {ys} hv room same r =
    subst (λ (u : List ℤ). Leaf (2 ^ m) (leaf m u) (part_of c (2 ^ m) ys) w) (part_is m c xs hv room same) r.leaf

-- ---- what a direction says, by its outcome

module _ {m b c : ℕ} {ys : List ℤ} (projects : Projects m b c ys) where
  -- where the outcome has a word, that stands by signs from c on
  pub word_is : (o : Outcome) (w : Bool) → Leaf (2 ^ m) o (part_of c (2 ^ m) ys) w → (p : ℕ) → p < 2 ^ suc m
      → word_at w b c ys p ≡ share b (front_of (2 ^ suc m) ys) o p
  word_is (accepted d k l) w read p h =
      let q : ℕ = coset_of b p in
      let u : q < 2 ^ m = number_lt projects.direction p h in
      ap (λ (t : Bool). cond t (heard_at b c ys p) (pos 0)) read.said
      ∙ ap₂ signed
      (ap constant_of (sym (at-part_of (pos 0) c (2 ^ m) ys projects.room q u) ∙ ap (at (part_of c (2 ^ m) ys)) {x = q} {y = 0 + q} (omega arith)) ∙ read.word.each q u)
      (sym (get_or-take (2 ^ suc m) ys (bit_xor p b) (pos 0) (xor_lt (suc m) p b h projects.direction.under)))
  word_is (refused e k l) w read p h = ap (λ (t : Bool). cond t (heard_at b c ys p) (pos 0)) read.said

pub silence_is : {n : ℕ} {ys : List ℤ} (o : Outcome) (w : Bool) → Leaf n o ys w → silence w ≡ abstains o
silence_is (accepted d k l) w read = ap silence read.said
silence_is (refused e k l) w read = ap silence read.said

-- ---- a direction

module _ {m i : ℕ} {lower : List ℤ → Outcome} {xs : List ℤ} (poll : Poll m lower i xs) where
  abbrev x : List ℤ
  x = front_of (2 ^ suc m) xs

  -- the sums as they were
  kept_sums : {zs : List ℤ} → SameFront (4 * 2 ^ m) xs zs → Sums (2 ^ suc m) zs
  kept_sums same = record {
    small = λ p l. subst (λ (z : ℤ). nat_abs z < 2 ^ 29) (sym (same.same (2 ^ suc m + p) (omega arith))) ((poll_sums poll).small p l);
  }

  pub kept_front : {zs : List ℤ} → SameFront (4 * 2 ^ m) xs zs → SameFront (2 ^ suc m) xs zs
  kept_front same = record { long = same.long; same = λ p l. same.same p (omega arith) }

  module _ {zs : List ℤ} {b c : ℕ} (more : i < 2 ^ suc m - 1) (is : b ≡ suc i) (same : SameFront (4 * 2 ^ m) xs zs)
      (beyond : 4 * 2 ^ m ≤ c) (room : c + 2 ^ m ≤ length xs) where
    -- what its share asks
    pub hear_asks : Projects m b c zs × Sums (2 ^ suc m) zs
    hear_asks = (poll_projects poll (kept_front same) (omega arith) (omega arith) beyond room, kept_sums same)

    pub hear_more : {us : List ℤ} {w : Bool} → Leaf (2 ^ m) (read m lower x i) (part_of c (2 ^ m) zs) w
        → Written (pos 0) (2 ^ suc m) (2 ^ suc m) (λ p. at zs (2 ^ suc m + p) +ℤ word_at w b c zs p) zs us
        → Polled m lower i (i + 1) xs us (silence w)
    unfolding total
    hear_more {us} {w} said new =
        poll_more poll 1 (silence w) (omega arith) (front_then (kept_front same) (written_front new (omega arith)))
        (λ p l.
        new.within p l
        ∙ ap₂ ◌+ℤ◌ (same.same (2 ^ suc m + p) (omega arith))
        (word_is hear_asks.0 (read m lower x i) w said p l
        ∙ ap₂ (λ (d : ℕ) (y : List ℤ). share d y (read m lower x i) p) is (same_front (kept_front same) poll.round.values.room)
        ∙ ap (λ (j : ℕ). share (suc j) x (read m lower x j) p) {x = i} {y = i + 0} (omega arith)
        ∙ sym (+ℤ_idl (share (suc (i + 0)) x (read m lower x (i + 0)) p))))
        (silence_is (read m lower x i) w said
        ∙ ap (λ (j : ℕ). abstains (read m lower x j)) {x = i} {y = i + 0} (omega arith) ∙ sym (zero-add (abstains (read m lower x (i + 0)))))

-- its projection stands at c, and is read at order 1
module _ {m i b c : ℕ} {xs ys : List ℤ} (poll : Poll m (leaf m) i xs) (more : i < 2 ^ suc m - 1) (is : b ≡ suc i) (place : c ≡ 4 * 2 ^ m)
    (projected : Written (pos 0) c (2 ^ m) (at (project_values m b (front_of (2 ^ suc m) xs))) xs ys) where
  pub one_leaf : LeafAt m c ys
  one_leaf =
      leaf_at poll.round.some poll.round.few (project_range (front_of (2 ^ suc m) xs) (poll_range poll) m b)
      (omega (arith, projected.long, poll.round.room)) projected.within

  module _ {zs : List ℤ} {w : Bool} (r : ReadAt m c ys zs w) where
    pub one_same : SameFront (4 * 2 ^ m) xs zs
    one_same = front_then (written_front projected (omega arith)) (written_front r.rest (omega arith))

    pub one_asks : Projects m b c zs × Sums (2 ^ suc m) zs
    one_asks = hear_asks poll more is one_same (omega arith) (omega (arith, poll.round.room))

    pub one_more : {us : List ℤ} → Written (pos 0) (2 ^ suc m) (2 ^ suc m) (λ p. at zs (2 ^ suc m + p) +ℤ word_at w b c zs p) zs us
        → Polled m (leaf m) i (i + 1) xs us (silence w)
    one_more new =
        hear_more poll more is one_same (omega arith) (omega (arith, poll.round.room))
        (subst (λ (d : ℕ). Leaf (2 ^ m) (leaf m (project_values m d (front_of (2 ^ suc m) xs))) (part_of c (2 ^ m) zs) w) is
        (leaf_read (project_block m b (front_of (2 ^ suc m) xs)) (omega (arith, projected.long, poll.round.room)) projected.within r))
        new

-- ---- four directions

-- the part of direction 4 × k + l
abbrev pub part_at : ℕ → ℕ → ℕ
part_at m l = 4 * 2 ^ m + l * 2 ^ m

-- parts stand apart
parts_apart : (m i l : ℕ) → i < l → part_at m i + 2 ^ m ≤ part_at m l
parts_apart m i l h = omega (arith, suc-mul i (2 ^ m), mul-le-mul_right (2 ^ m) h)

parts_room : (m l : ℕ) → l < 4 → part_at m l + 2 ^ m ≤ 8 * 2 ^ m
parts_room m l h = omega (arith, suc-mul l (2 ^ m), mul-le-mul_right (2 ^ m) h)

-- 2 ^ suc m is a multiple of 4
fours_room : (m k : ℕ) → 1 ≤ m → 4 * k < 2 ^ suc m → 4 * k + 3 < 2 ^ suc m
fours_room zero k h l = absurd (omega arith)
fours_room (suc m) k h l = omega arith

-- directions 4 × k to 4 × k + 3 are next; of their projections the first j were read, w telling of words
pub record Quad (m k j : ℕ) (w : ℕ → Bool) (xs ys : List ℤ) : Type 0 where
  pub some : 1 ≤ k
  pub under : 4 * k < 2 ^ suc m
  pub poll : Poll m (leaf m) (4 * k - 1) xs
  pub same : SameFront (4 * 2 ^ m) xs ys
  pub read : (l : ℕ) → l < j → Leaf (2 ^ m) (leaf m (project_values m (4 * k + l) (front_of (2 ^ suc m) xs))) (part_of (part_at m l) (2 ^ m) ys) (w l)
  pub ahead : (l : ℕ) → j ≤ l → l < 4 → (q : ℕ) → q < 2 ^ m → at ys (part_at m l + q) ≡ at (project_values m (4 * k + l) (front_of (2 ^ suc m) xs)) q

module _ {m k : ℕ} {xs : List ℤ} (some : 1 ≤ k) (under : 4 * k < 2 ^ suc m) (poll : Poll m (leaf m) (4 * k - 1) xs) where
  pub quad_asks : ProjectsFour m k xs
  quad_asks = record {
    direction = record { small = poll.round.few; some = omega arith; under = under };
    blocks = enough m under;
    room = poll.round.room;
    values = poll.round.values;
  }
    where
      enough : (i : ℕ) → 4 * k < 2 ^ suc i → 2 ≤ i
      enough zero h = absurd (omega arith)
      enough (suc zero) h = absurd (omega arith)
      enough (suc (suc i)) h = omega arith

  pub quad_first : {w : ℕ → Bool} {ys : List ℤ} → Written (pos 0) (4 * 2 ^ m) (4 * 2 ^ m) (four_projected m k (front_of (2 ^ suc m) xs)) xs ys → Quad m k 0 w xs ys
  quad_first {w} {ys} new = record {
    some = some;
    under = under;
    poll = poll;
    same = written_front new (omega arith);
    read = λ l h. absurd (omega arith);
    ahead = λ l _ h q u.
        ap (at ys) (add_assoc (4 * 2 ^ m) (l * 2 ^ m) q)
        ∙ new.within (l * 2 ^ m + q) (omega (arith, parts_room m l h))
        ∙ ap₂ (λ (d e : ℕ). at (project_values m (4 * k + d) (front_of (2 ^ suc m) xs)) e) (digits_div l u) (digits_mod l u);
  }

module _ {m k j : ℕ} {w : ℕ → Bool} {xs ys : List ℤ} (quad : Quad m k j w xs ys) where
  open quad use {poll, same, ahead}

  room_part : (l : ℕ) → l < 4 → part_at m l + 2 ^ m ≤ length ys
  room_part l h = omega (arith, parts_room m l h, poll.round.room, same.long)

  -- the next is read
  module _ {c : ℕ} (more : j < 4) (place : c ≡ part_at m j) where
    ahead_here : (q : ℕ) → q < 2 ^ m → at ys (c + q) ≡ at (project_values m (4 * k + j) (front_of (2 ^ suc m) xs)) q
    ahead_here q u = ap (λ (e : ℕ). at ys (e + q)) place ∙ ahead j (omega arith) more q u

    room_here : c + 2 ^ m ≤ length ys
    room_here = omega (arith, room_part j more)

    pub quad_leaf : LeafAt m c ys
    quad_leaf = leaf_at poll.round.some poll.round.few (project_range (front_of (2 ^ suc m) xs) (poll_range poll) m (4 * k + j)) room_here ahead_here

    pub quad_read : {zs : List ℤ} → ReadAt m c ys zs (w j) → Quad m k (suc j) w xs zs
    quad_read {zs} r = record {
      some = quad.some;
      under = quad.under;
      poll = poll;
      same = front_then same (written_front r.rest (omega arith));
      read = λ l h. elim (ℕ_discrete l j) [
        | yes e ↦ rw e (subst (λ (d : ℕ). Leaf (2 ^ m) (leaf m (project_values m (4 * k + j) (front_of (2 ^ suc m) xs))) (part_of d (2 ^ m) zs) (w j)) place
            (leaf_read (project_block m (4 * k + j) (front_of (2 ^ suc m) xs)) room_here ahead_here r))
        | no n ↦
            subst (λ (u : List ℤ). Leaf (2 ^ m) (leaf m (project_values m (4 * k + l) (front_of (2 ^ suc m) xs))) u (w l))
            (sym (part_kept m (part_at m l) ys zs (room_part l (omega arith)) r.rest.long
            (λ q u. r.rest.below (part_at m l + q) (omega (arith, parts_apart m l j (omega arith))))))
            (quad.read l (omega arith))
      ];
      ahead = λ l h g q u. r.rest.above (part_at m l + q) (omega (arith, parts_apart m j l h)) ∙ ahead l (omega arith) g q u;
    }

-- all four were read
module _ {m k : ℕ} {w : ℕ → Bool} {xs ys : List ℤ} (quad : Quad m k 4 w xs ys) where
  open quad use {poll, same}

  abbrev v : List ℤ
  v = front_of (2 ^ suc m) xs

  same_here : SameFront (2 ^ suc m) xs ys
  same_here = record { long = same.long; same = λ p l. same.same p (omega arith) }

  pub quad_words : ProjectsFour m k ys × Sums (2 ^ suc m) ys
  quad_words =
      let asks : ProjectsFour m k xs = quad_asks quad.some quad.under poll in (
        record {
          direction = asks.direction;
          blocks = asks.blocks;
          room = omega (arith, asks.room, same.long);
          values = same_values same_here asks.values;
        },
        kept_sums poll same,
      )

  projects_here : (l : ℕ) → l < 4 → 4 * k + l < 2 ^ suc m → Projects m (4 * k + l) (part_at m l) ys
  projects_here l h u = poll_projects poll same_here (omega (arith, quad.some)) u (omega arith) (omega (arith, parts_room m l h, poll.round.room))

  fours : 4 * k + 3 < 2 ^ suc m
  fours = fours_room m k poll.round.some quad.under

  word_four : (p : ℕ) → p < 2 ^ suc m → (l : ℕ) → l < 4
      → word_at (w l) (4 * k + l) (part_at m l) ys p ≡ share (suc (4 * k - 1 + l)) v (read m (leaf m) v (4 * k - 1 + l)) p
  word_four p u l h =
      word_is (projects_here l h (omega (arith, fours))) (leaf m (project_values m (4 * k + l) v)) (w l) (quad.read l h) p u
      ∙ ap (λ (y : List ℤ). share (4 * k + l) y (leaf m (project_values m (4 * k + l) v)) p) (same_front same_here poll.round.values.room)
      ∙ ap (λ (d : ℕ). share d v (leaf m (project_values m d v)) p) {x = 4 * k + l} {y = suc (4 * k - 1 + l)} (omega (arith, quad.some))

  silence_four : (l : ℕ) → l < 4 → silence (w l) ≡ abstains (read m (leaf m) v (4 * k - 1 + l))
  silence_four l h =
      silence_is (leaf m (project_values m (4 * k + l) v)) (w l) (quad.read l h)
      ∙ ap (λ (d : ℕ). abstains (leaf m (project_values m d v))) {x = 4 * k + l} {y = suc (4 * k - 1 + l)} (omega (arith, quad.some))

  pub quad_more : {us : List ℤ} → Written (pos 0) (2 ^ suc m) (2 ^ suc m) (λ p. at ys (2 ^ suc m + p) +ℤ words_at m k w ys p) ys us
      → Polled m (leaf m) (4 * k - 1) (4 * k - 1 + 4) xs us (silences w)
  quad_more new =
      poll_more poll 4 (silences w) (omega (arith, fours, quad.some)) (front_then same_here (written_front new (omega arith)))
      (λ p l. new.within p l ∙ ap₂ ◌+ℤ◌ (same.same (2 ^ suc m + p) (omega arith)) (sum_ℤ_ext 4 _ _ (word_four p l)))
      (sum_ext 4 _ _ silence_four)

-- ---- a round: how many are heard together, and that each is one leaf

pub together_one : (i : ℕ) → i < 3 → together i ≡ 1
together_one i h = rw (lt-ltb i 3 h)

pub together_four : (i : ℕ) → 3 ≤ i → together i ≡ 4
together_four i h = rw (le-ltb i 3 h)

pub together_some : (i : ℕ) → 1 ≤ together i
together_some i = go (ltb i 3)
  where
    go : (t : Bool) → 1 ≤ cond t 1 4
    go true = omega arith
    go false = omega arith

pub next_room : (m i : ℕ) → 1 ≤ m → Next m i → i + together i ≤ 2 ^ suc m - 1
next_room m i some next = go (ltb i 3) refl
  where
    go : (t : Bool) → ltb i 3 ≡ t → i + cond t 1 4 ≤ 2 ^ suc m - 1
    go true q = omega (arith, next.more)
    go false q =
        let whole = next.whole (ltb-false i 3 q) in
        let room = fours_room m ((i + 1) / 4) some (omega (arith, next.more, whole)) in omega (arith, whole, room)

-- whole fours were heard then too
pub next_whole : (i : ℕ) → (3 ≤ i → (i + 1) % 4 ≡ 0) → 3 ≤ i + together i → (i + together i + 1) % 4 ≡ 0
next_whole i whole = go (ltb i 3) refl
  where
    go : (t : Bool) → ltb i 3 ≡ t → 3 ≤ i + cond t 1 4 → (i + cond t 1 4 + 1) % 4 ≡ 0
    go true q h = omega (arith, ltb-true i 3 q)
    go false q h = omega (arith, whole (ltb-false i 3 q))

-- each direction is one leaf
pub leaf-round_leaves : (m : ℕ) (v : List ℤ) → round_leaves m (leaf m) v ≡ 2 ^ suc m - 1
unfolding round_leaves
leaf-round_leaves m v =
    sum_same (2 ^ suc m - 1) 1 _ (λ i l. leaf_leaves 1 (read m (leaf m) v i) (order1_leaf m (at (project_values m (suc i) v)))) ∙ omega arith

-- A reading in the area: orders 0 and 1, and what its loop over the rounds keeps. Assumes nothing.
use Rattle.std.specs.Prelude.{Option, None, Some}
use Prim.Native.Nat.{ℕ, zero, suc, ◌+◌, ◌-◌, ◌*◌, ◌%◌, ◌^◌, ◌≤◌, ◌<◌}
use native.Mathlib.Omega.{arith}
use native.Mathlib.Nat.{sub-zero}
use native.Mathlib.Numerals.{add-one, sub-one}
use mathlib.Core.Path.{◌≡◌, refl, sym, ap, ap₂, subst, ◌∙◌}
use mathlib.Core.Bool.{Bool, true, false, cond}
use mathlib.Core.List.{List}
use lib.Dec.{eqb}
use lib.ListN.{length}
use lib.Pow.{pow_mono}
use lib.IntN.{ℤ, pos}
use Rattle.words.specs.Sum.{all_below}
use Rattle.words.specs.Word.{bit, add_words}
use Rattle.words.specs.Written.{Written}
use Rattle.area.specs.Area.{Bits, Front, SameFront, word_of}
use Rattle.area.proofs.AreaLaws.{front_bits, front_word, front_of, front_kept}
use Rattle.code.specs.Code.{codeword_test}
use Rattle.cosets.specs.Votes.{Tally}
use Rattle.hadamard.specs.Correlation.{values}
use Rattle.rule.specs.Reading.{Outcome, accepted, refused, leaves_of, order0, order1, abstained, flips, reading, round_leaves, rounds}
use Rattle.rule.proofs.Rounds.{rounds_none, rounds_step, still}
use Rattle.rule.specs.Counts.{Leaf}
use Rattle.rule.proofs.Counts.{reading_leaf, round_least}
use Rattle.rule.specs.Decoding.{limited}
use Rattle.rule.proofs.DecodingLaws.{limited_within}
use Rattle.told.specs.Told.{Verdict, as_accepted, as_refused, numbers_in, Read}
use Rattle.told.specs.ToldLaws.{read_above, read_within}
use Rattle.told.specs.declared.Noise.TheVariants.{Flipping, TooManyLeaves, Unsettled}
use Rattle.flips.specs.Flips.{flip_of}
use Rattle.steps.specs.declared.Count.{Count}
use Rattle.readings.specs.Readings.{Ready, Voted}
use Rattle.steps.specs.Answers.{counted, spent}
use Rattle.readings.proofs.Flips.{Polled, abstained-lt, polled_tally, still_is, word_flipped, word_settled}

-- ---- orders 0 and 1

leaf_leaves : (r : ℕ) (o : Outcome) → Leaf r o → leaves_of o ≡ r
leaf_leaves r (accepted d k l) h = omega arith
leaf_leaves r (refused e k l) h = omega arith

module _ (r m limit left : ℕ) (w : List ℕ) (ys : List ℤ) where
  leaves_are : r ≤ 1 → leaves_of (reading r m limit w) ≡ r
  leaves_are h = leaf_leaves r (reading r m limit w) (reading_leaf r m limit w h)

  whole_read : {a : Verdict} → r ≤ 1 → r ≤ left → Read (2 ^ m) (reading r m limit w) ys a → Read (2 ^ m) (limited left (reading r m limit w)) ys a
  whole_read h l read = rw (limited_within left (reading r m limit w) (omega (arith, leaves_are h))) read

  pub read_zero : {a : Verdict} → r ≡ 0 → Read (2 ^ m) (order0 m (values w)) ys a → Read (2 ^ m) (limited left (reading r m limit w)) ys a
  unfolding reading
  read_zero e read = whole_read (omega arith) (omega arith) (rw e read)

  pub read_one : {a : Verdict} → r ≡ 1 → (left ≡ 0 → ⊥) → Read (2 ^ m) (order1 m (values w)) ys a → Read (2 ^ m) (limited left (reading r m limit w)) ys a
  unfolding reading
  read_one e some read = whole_read (omega arith) (omega arith) (rw e read)

  pub read_none : r ≡ 1 → left ≡ 0 → Read (2 ^ m) (limited left (reading r m limit w)) ys (as_refused TooManyLeaves 0 left)
  read_none e none = read_above ys (reading r m limit w) (omega (arith, leaves_are (omega arith)))

-- ---- order 2 and above

-- a reading in rounds at order r, of a word of exponent M: its projections' exponent and readings, the limits, its outcome, and the
-- area at its start
pub record Series : Type 0 where
  pub M : ℕ
  pub m : ℕ
  pub r : ℕ
  pub limit : ℕ
  pub left : ℕ
  pub lower : List ℕ → Outcome
  pub whole : Outcome
  pub start : List ℤ

-- after k rounds with `used` leaves, the outcome is that of the rounds from here on; before the first the word is as it was
pub record Turn (f : Series) (ys : List ℤ) (k used : ℕ) : Type 0 where
  pub long : length ys ≡ length f.start
  pub first : k ≡ 0 → SameFront (2 ^ suc f.m) f.start ys
  pub many : k ≤ f.limit
  pub few : used ≤ f.left
  pub bits : Bits (2 ^ suc f.m) ys
  pub same : f.whole ≡ rounds f.m f.lower f.r (f.limit - k) k used (word_of (2 ^ suc f.m) ys)

-- what a reading answers
abbrev pub Reads : Series → List ℤ → Verdict → Type 0
Reads f ys a = Read (2 ^ f.M) (limited f.left f.whole) ys a

module _ {f : Series} {ys : List ℤ} {k used : ℕ} (turn : Turn f ys k used) where
  open f use {M, m, r, limit, left, lower, whole}

  abbrev w : List ℕ
  w = word_of (2 ^ suc m) ys

  -- the next round
  next : k < limit → whole ≡ rounds m lower r (suc (limit - (k + 1))) k used w
  next h = turn.same ∙ ap (λ (j : ℕ). rounds m lower r j k used w) (omega arith)

  -- the rounds are used up
  pub turn_last : limit ≤ k → Reads f ys (as_refused Flipping limit used)
  turn_last h =
      let last : k ≡ limit = omega (arith, turn.many) in
      let e : whole ≡ refused 10 limit used =
      turn.same ∙ ap (λ (j : ℕ). rounds m lower r j k used w) {x = limit - k} {y = 0} (omega arith) ∙ rounds_none m lower r k used w
      ∙ ap (λ (j : ℕ). refused 10 j used) last in
      rw e (read_within ys (refused 10 limit used) turn.few refl tt)

  -- the next round's leaves are too many
  pub turn_exhausted : {zs us : List ℤ} {c : Option Count} → k < limit → Voted m (left - used) lower ys zs c → c ≡ None → Reads f us (as_refused TooManyLeaves 0 left)
  turn_exhausted {us = us} h voted e =
      read_above us whole
      (omega (arith, turn.few, spent (left - used) (round_leaves m lower w) (abstained m lower w) voted.said e, round_least m lower r (limit - (k + 1)) k used w, ap leaves_of (next h)))

-- a round was made, which answered c
pub record Made (f : Series) (ys zs : List ℤ) (k used : ℕ) (c : Option Count) (count : Count) : Type 0 where
  pub up : suc f.m ≡ f.M
  pub turn : Turn f ys k used
  pub more : k < f.limit
  pub room : 2 * 2 ^ f.M ≤ length f.start
  pub same_length : length zs ≡ length ys
  pub voted : Voted f.m (f.left - used) f.lower ys zs c
  pub done : c ≡ Some count

module _ {f : Series} {ys zs : List ℤ} {k used : ℕ} {c : Option Count} {count : Count} (made : Made f ys zs k used c count) where
  open f use {M, m, r, limit, left, lower, whole, start}
  open made use {up, turn, voted}

  leaves : (count.leaves ≡ round_leaves m lower (w turn)) × (round_leaves m lower (w turn) ≤ left - used) × (count.abstained ≡ abstained m lower (w turn))
  leaves = counted (left - used) (round_leaves m lower (w turn)) (abstained m lower (w turn)) voted.said count made.done

  pub made_few : used + count.leaves ≤ left
  made_few = omega (arith, leaves, turn.few)

  polled : Polled m lower (w turn) zs
  polled = record { word = front_kept (front_of turn.bits) voted.kept.same; tally = voted.tally leaves.1 }

  power : 2 ^ suc m ≡ 2 ^ M
  power = ap (λ (j : ℕ). 2 ^ j) up

  long : length zs ≡ length start
  long = made.same_length ∙ turn.long

  pub made_flips : (n : ℕ) → n ≡ 2 ^ M → M ≤ 10 → ((count.abstained < n) × (n ≤ 1024) × (2 * n ≤ length zs)) × (Bits n zs × Tally n n zs)
  made_flips n e h =
      let q : 2 ^ suc m ≡ n = power ∙ sym e in (
        (omega (arith, q, leaves.2, abstained-lt m lower (w turn)), omega (arith, pow_mono h), omega (arith, long, made.room)),
        (
          subst (λ (j : ℕ). Bits j zs) q (front_bits (omega (arith, long, made.room, power)) polled.word),
          subst (λ (j : ℕ). Tally j j zs) q (polled_tally polled),
        ),
      )

-- the flips were made in the first n numbers; b says that there were none
pub record Flips (f : Series) (ys zs us : List ℤ) (k used : ℕ) (c : Option Count) (count : Count) (n : ℕ) (b : Bool) : Type 0 where
  pub made : Made f ys zs k used c count
  pub many : n ≡ 2 ^ f.M
  pub none : b ≡ all_below n (λ p. eqb (flip_of n count.abstained zs p) 0)
  pub flipped : Written (pos 0) 0 n (λ p. pos ((bit (word_of n zs) p + flip_of n count.abstained zs p) % 2)) zs us

module _ {f : Series} {ys zs us : List ℤ} {k used : ℕ} {c : Option Count} {count : Count} {n : ℕ} {b : Bool} (flipping : Flips f ys zs us k used c count n b) where
  open f use {M, m, r, limit, left, lower, whole, start}
  open flipping use {made, many, none, flipped}
  open made use {up, turn}

  abbrev x : List ℕ
  x = w turn

  abbrev a : ℕ
  a = abstained m lower x

  still_here : b ≡ still m lower x
  still_here = rw (many ∙ sym (power made), (leaves made).2) at none ∙ still_is (polled made)

  flips_here : Written (pos 0) 0 (2 ^ suc m) (λ p. pos ((bit (word_of (2 ^ suc m) zs) p + flip_of (2 ^ suc m) a zs p) % 2)) zs us
  flips_here = rw (many ∙ sym (power made), (leaves made).2) at flipped

  room : 2 ^ suc m ≤ length zs
  room = omega (arith, long made, made.room, power made)

  room_us : 2 ^ suc m ≤ length us
  room_us = omega (arith, room, flips_here.long)

  front_flipped : Front (2 ^ suc m) (add_words x (flips m lower x)) us
  front_flipped = word_flipped (polled made) room flips_here

  pub flips_bits : Bits (2 ^ M) us
  flips_bits = subst (λ (j : ℕ). Bits j us) (power made) (front_bits room_us front_flipped)

  step : whole ≡ cond (still m lower x) (cond (codeword_test (suc m) r x) (accepted x (suc k) (used + round_leaves m lower x)) (refused 11 (suc k) (used + round_leaves m lower x)))
      (rounds m lower r (limit - (k + 1)) (suc k) (used + round_leaves m lower x) (add_words x (flips m lower x)))
  step = next turn made.more ∙ rounds_step m lower r (limit - (k + 1)) k used x

  -- something flipped
  pub flips_again : b ≡ false → Turn f us (k + 1) (used + count.leaves)
  flips_again e = record {
    long = flips_here.long ∙ long made;
    first = λ z. absurd (omega arith);
    many = omega (arith, made.more);
    few = made_few made;
    bits = front_bits room_us front_flipped;
    same = rw (sym still_here ∙ e) at step
        ∙ rw (add-one k, (leaves made).0, front_word room_us front_flipped);
  }

  -- nothing flipped
  module _ (e : b ≡ true) where
    unchanged : Front (2 ^ suc m) x us
    unchanged = word_settled (polled made) room flips_here (sym still_here ∙ e)

    pub flips_settled : {vs : List ℤ} {a : Verdict}
        → a ≡ cond (codeword_test M r (word_of (2 ^ M) us)) (as_accepted (k + 1) (used + count.leaves)) (as_refused Unsettled (k + 1) (used + count.leaves))
        → SameFront (2 ^ M) us vs → Reads f vs a
    flips_settled {vs} {a} said kept =
        rw (rw (sym still_here ∙ e) at step)
        (go (codeword_test (suc m) r x) (said ∙ ap₂ (λ (j : ℕ) (u : List ℕ). answer (codeword_test j r u)) (sym up) same_word))
      where
        same_word : word_of (2 ^ M) us ≡ x
        same_word = ap (λ (j : ℕ). word_of j us) (sym (power made)) ∙ front_word room_us unchanged

        holds : Front (2 ^ M) x vs
        holds = front_kept (subst (λ (j : ℕ). Front j x us) (power made) unchanged) kept.same

        answer : Bool → Verdict
        answer t = cond t (as_accepted (k + 1) (used + count.leaves)) (as_refused Unsettled (k + 1) (used + count.leaves))

        l : ℕ
        l = used + round_leaves m lower x

        few : l ≤ left
        few = omega (arith, leaves made, made_few made)

        go : (t : Bool) → a ≡ answer t → Read (2 ^ M) (limited left (cond t (accepted x (suc k) l) (refused 11 (suc k) l))) vs a
        go true q = read_within vs (accepted x (suc k) l) few (rw (add-one k, (leaves made).0) at (ap numbers_in q)) holds
        go false q = read_within vs (refused 11 (suc k) l) few (rw (add-one k, (leaves made).0) at (ap numbers_in q)) tt

    -- in the first round: the word is as it was
    pub flips_kept : {vs : List ℤ} → k + 1 ≡ 1 → SameFront (2 ^ M) us vs → SameFront (2 ^ M) start vs
    flips_kept first kept =
        let begun : SameFront (2 ^ suc m) start ys = turn.first (omega arith) in
        record {
          long = kept.long ∙ flips_here.long ∙ long made;
          same = λ p h.
              let h' : p < 2 ^ suc m = omega (arith, power made) in
              kept.same p h ∙ unchanged.each p h' ∙ sym ((front_of turn.bits).each p h') ∙ begun.same p h';
        }

-- ---- the start of the rounds

abbrev pub series : (m r limit left : ℕ) (xs : List ℤ) → Series
series m r limit left xs = record {
  M = m;
  m = m - 1;
  r = r;
  limit = limit;
  left = left;
  lower = reading (r - 1) (m - 1) limit;
  whole = reading r m limit (word_of (2 ^ m) xs);
  start = xs;
}

-- what a round asks
pub ready_round : {m r left : ℕ} {xs ys : List ℤ} (used : ℕ) → 2 ≤ r → Ready m r left xs → length ys ≡ length xs → Bits (2 ^ suc (m - 1)) ys
    → Ready (suc (m - 1)) (suc (r - 1)) (left - used) ys
ready_round {m} {r} {left} {xs} {ys} used h ready e bits =
    let power : 2 ^ suc (m - 1) ≡ 2 ^ m = ap (λ (j : ℕ). 2 ^ j) (omega arith) in
    record { some = omega arith; small = omega arith; order = omega arith; room = omega arith; bits = bits; few = omega arith }

reading_above : (r m limit : ℕ) (w : List ℕ) → 2 ≤ r → reading r m limit w ≡ rounds (m - 1) (reading (r - 1) (m - 1) limit) r limit 0 0 w
unfolding reading
reading_above zero m limit w h = absurd (omega arith)
reading_above (suc zero) m limit w h = absurd (omega arith)
reading_above (suc (suc r)) m limit w h = rw (sub-one m, sub-one (suc (suc r)))

-- before the first round
pub turn_first : (m r limit left : ℕ) (xs : List ℤ) → 2 ≤ r → 1 ≤ m → Bits (2 ^ m) xs → Turn (series m r limit left xs) xs 0 0
turn_first m r limit left xs h some bits =
    let up : m ≡ suc (m - 1) = omega arith in
    record {
      long = refl;
      first = λ z. record { long = refl; same = λ p l. refl };
      many = omega arith;
      few = omega arith;
      bits = subst (λ (j : ℕ). Bits (2 ^ j) xs) up bits;
      same = reading_above r m limit (word_of (2 ^ m) xs) h
          ∙ ap₂ (λ (i j : ℕ). rounds (m - 1) (reading (r - 1) (m - 1) limit) r i 0 0 (word_of (2 ^ j) xs)) (sym (sub-zero limit)) up;
    }

-- what the code's tests leave of the order
pub above : {r : ℕ} → (r ≡ 0 → ⊥) → (r ≡ 1 → ⊥) → 2 ≤ r
above h g = omega arith

-- a round was made by the code
module _ {m r limit left k used : ℕ} {count : Count} {xs ys zs : List ℤ} {c : Option Count} (some : r ≡ 0 → ⊥) (more : r ≡ 1 → ⊥)
    (ready : Ready m r left xs) (turn : Turn (series m r limit left xs) ys k used) (next : k < limit) (same : length zs ≡ length ys)
    (voted : Voted (m - 1) (left - used) (reading (r - 1) (m - 1) limit) ys zs c) (done : c ≡ Some count) where
  pub made_of : Made (series m r limit left xs) ys zs k used c count
  made_of =
      let two : 2 ≤ r = above some more in
      record {
        up = omega (arith, ready.some);
        turn = turn;
        more = next;
        room = omega (arith, ready.room);
        same_length = same;
        voted = voted;
        done = done;
      }

  -- and its flips
  pub flips_of : {n : ℕ} {b : Bool} {us : List ℤ} → n ≡ 2 ^ m
      → b ≡ all_below n (λ p. eqb (flip_of n count.abstained zs p) 0)
      → Written (pos 0) 0 n (λ p. pos ((bit (word_of n zs) p + flip_of n count.abstained zs p) % 2)) zs us
      → Flips (series m r limit left xs) ys zs us k used c count n b
  flips_of many none flipped = record { made = made_of; many = many; none = none; flipped = flipped }

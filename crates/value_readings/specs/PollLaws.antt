-- A round of confidences step by step in the area. Assumes nothing.
use Rattle.std.specs.Prelude.{None, ℕ, suc, ◌+◌, ◌-◌, ◌*◌, ◌^◌, ◌≤◌, ◌<◌, ◌≡◌, refl, cond, List, eqb, length, ℤ, pos, nat_abs, ◌+ℤ◌}
use Rattle.std.proofs.Common.{add-zero, add_assoc, zero-add, arith, sym, ap, ap₂, subst, ◌∙◌, pow_mono, get_or-take, le-ltb, lt-ltb}
use Rattle.std.proofs.Math.IntN.{+ℤ_idr, +ℤ_assoc}
use Rattle.words.specs.Sum.{sum_below, sum_below_ℤ}
use Rattle.words.specs.SumLaws.{sum_most, total_append}
use Rattle.words.specs.Written.{Written}
use Rattle.area.specs.Area.{at, SameFront}
use Rattle.rule.specs.Reading.{Outcome, abstains, accepted, refused}
use Rattle.steps.specs.Steps.{done}
use Rattle.confidences.specs.Confidences.{abstained, cut, read, round_leaves, share, sums}
use Rattle.confidences.specs.InRange.{InRange}
use Rattle.confidences.proofs.Range.{sums_small}
use Rattle.confidences.proofs.Rounds.{abstained_all, abstained_none, at-updated, sums_all, sums_none}
use Rattle.confidences.specs.FirstDirections.{abstained_to, sums_to}
use Rattle.confidences.proofs.ValueLaws.{front_range, same_front, same_values}
use Rattle.confidences.specs.Values.{Projects, Sums, front_of}
use Rattle.value_readings.specs.Polls.{Poll, Polled, Renewed, Rounded, new_at}

-- ---- the values in the front

pub same_rounded : {m : ℕ} {xs ys : List ℤ} → SameFront (2 ^ suc m) xs ys → Rounded m xs → Rounded m ys
same_rounded {m} same r = record {
  some = r.some;
  few = r.few;
  room = omega (arith, same.long, r.room);
  values = same_values same r.values;
}

-- numbers written behind the front leave it
pub written_front : {n a k : ℕ} {f : ℕ → ℤ} {xs ys : List ℤ} → Written (pos 0) a k f xs ys → n ≤ a → SameFront n xs ys
written_front w h = record { long = w.long; same = λ p l. w.below p (omega arith) }

pub front_then : {n : ℕ} {xs ys zs : List ℤ} → SameFront n xs ys → SameFront n ys zs → SameFront n xs zs
front_then a b = record { long = b.long ∙ a.long; same = λ p l. b.same p l ∙ a.same p l }

pub rounded_front : {m : ℕ} {xs : List ℤ} → Rounded m xs → 2 ^ suc m ≤ length xs
rounded_front r = r.values.room

-- ---- the start: the sums are cleared

pub poll_first : {m : ℕ} {xs ys : List ℤ} (lower : List ℤ → Outcome) → Rounded m xs → Written (pos 0) (2 ^ suc m) (2 ^ suc m) (λ p. pos 0) xs ys
    → Polled m lower 0 0 xs ys 0
poll_first {m} {xs} {ys} lower r w =
    let same : SameFront (2 ^ suc m) xs ys = written_front w (omega arith) in
    record {
      poll = record {
        round = same_rounded same r;
        many = omega arith;
        sums = λ p l. w.within p l ∙ sym (sums_none m lower (front_of (2 ^ suc m) ys) p);
      };
      front = same;
      silent = omega arith;
    }

-- ---- directions

abstains_once : (o : Outcome) → abstains o ≤ 1
abstains_once (accepted d k l) = omega arith
abstains_once (refused e k l) = omega arith

module _ {m : ℕ} {lower : List ℤ → Outcome} where
  -- no more abstain than there are
  pub polled_few : {i j a : ℕ} {xs ys : List ℤ} → Polled m lower i j xs ys a → a ≤ 1023
  polled_few {i} {j} {a} {xs} p =
      omega (
        arith,
        p.silent,
        sum_most j 1 (λ l. abstains (read m lower (front_of (2 ^ suc m) xs) l)) (λ l h. abstains_once (read m lower (front_of (2 ^ suc m) xs) l)),
        p.poll.many,
        pow_mono {i = suc m} {j = 10} (omega (arith, p.poll.round.few)),
      )

  pub polled_none : {i : ℕ} {xs : List ℤ} → Poll m lower i xs → Polled m lower i i xs xs 0
  polled_none poll = record { poll = poll; front = record { long = refl; same = λ p l. refl }; silent = omega arith }

  -- some directions, then some more
  pub polled_then : {i j k a b : ℕ} {xs ys zs : List ℤ} → Rounded m xs → Polled m lower i j xs ys a → Polled m lower j k ys zs b → Polled m lower i k xs zs (a + b)
  polled_then {i} {j} {k} {a} {b} {xs} {ys} {zs} r p q =
      let same : front_of (2 ^ suc m) ys ≡ front_of (2 ^ suc m) xs = same_front p.front r.values.room in
      let next : abstained_to m lower (front_of (2 ^ suc m) xs) j + b ≡ abstained_to m lower (front_of (2 ^ suc m) xs) k = rw same at q.silent in
      record {
        poll = q.poll;
        front = front_then p.front q.front;
        silent = omega (arith, p.silent, next);
      }

  -- from the start on
  pub polled_from : {j a : ℕ} {xs ys zs : List ℤ} → Rounded m xs → Written (pos 0) (2 ^ suc m) (2 ^ suc m) (λ p. pos 0) xs ys
      → Polled m lower 0 j ys zs a → Polled m lower 0 j xs zs a
  polled_from {j} {a} {xs} {ys} {zs} r w p = subst (Polled m lower 0 j xs zs) (zero-add a) (polled_then r (poll_first lower r w) p)

  module _ {i : ℕ} {xs : List ℤ} (poll : Poll m lower i xs) where
    abbrev x : List ℤ
    x = front_of (2 ^ suc m) xs

    pub poll_range : InRange x
    poll_range = front_range poll.round.values

    pub poll_sums : Sums (2 ^ suc m) xs
    poll_sums = record {
      small = λ p l. subst (λ (z : ℤ). nat_abs z < 2 ^ 29) (sym (poll.sums p l)) (sums_small x poll_range m lower i p poll.round.few poll.many);
    }

    -- what a direction asks
    pub poll_projects : {ys : List ℤ} {b c : ℕ} → SameFront (2 ^ suc m) xs ys → 0 < b → b < 2 ^ suc m → 4 * 2 ^ m ≤ c → c + 2 ^ m ≤ length xs → Projects m b c ys
    poll_projects same some under beyond room = record {
      direction = record { small = poll.round.few; some = some; under = under };
      beyond = beyond;
      room = omega (arith, same.long);
      values = same_values same poll.round.values;
    }

    -- j directions more
    pub poll_more : {ys : List ℤ} (j a : ℕ) → i + j ≤ 2 ^ suc m - 1 → SameFront (2 ^ suc m) xs ys
        → ((p : ℕ) → p < 2 ^ suc m → at ys (2 ^ suc m + p) ≡ at xs (2 ^ suc m + p) +ℤ sum_below_ℤ j (λ l. share (suc (i + l)) x (read m lower x (i + l)) p))
        → a ≡ sum_below j (λ l. abstains (read m lower x (i + l)))
        → Polled m lower i (i + j) xs ys a
    poll_more {ys} j a many same new silent =
        let front : front_of (2 ^ suc m) ys ≡ x = same_front same poll.round.values.room in
        record {
          poll = record {
            round = same_rounded same poll.round;
            many = many;
            sums = λ p l.
                new p l ∙ ap (λ (z : ℤ). z +ℤ sum_below_ℤ j (λ l. share (suc (i + l)) x (read m lower x (i + l)) p)) (poll.sums p l)
                ∙ sym (total_append ◌+ℤ◌ (pos 0) +ℤ_idr +ℤ_assoc i j (λ l. share (suc l) x (read m lower x l) p))
                ∙ ap (λ (y : List ℤ). sums_to m lower y (i + j) p) (sym front);
          };
          front = same;
          silent = ap (λ (b : ℕ). abstained_to m lower x i + b) silent
              ∙ sym (total_append ◌+◌ 0 add-zero add_assoc i j (λ l. abstains (read m lower x l)));
        }

-- ---- the end

module _ {m a : ℕ} {lower : List ℤ → Outcome} {xs zs : List ℤ} (r : Rounded m xs)
    (polled : Polled m lower 0 (2 ^ suc m - 1) xs zs a) where
  abbrev w : List ℤ
  w = front_of (2 ^ suc m) xs

  front_zs : front_of (2 ^ suc m) zs ≡ w
  front_zs = same_front polled.front r.values.room

  all_silent : abstained m lower w ≡ a
  all_silent = omega (arith, abstained_all m lower w, abstained_none m lower w, polled.silent)

  all_sums : (p : ℕ) → p < 2 ^ suc m → at zs (2 ^ suc m + p) ≡ sums m lower w p
  all_sums p l = polled.poll.sums p l ∙ ap (λ (y : List ℤ). sums_to m lower y (2 ^ suc m - 1) p) front_zs ∙ sym (sums_all m lower w p)

  -- all directions were heard, with enough leaves, and the new values made
  pub poll_last : {left used : ℕ} {us : List ℤ} → used ≡ round_leaves m lower w → used ≤ left → Written (pos 0) 0 (2 ^ suc m) (new_at m a zs) zs us
      → Renewed m left lower xs us (done used a)
  poll_last {left} {used} {us} e enough new = record {
    said = rw (← e, le-ltb left used enough, all_silent);
    long = new.long ∙ polled.front.long;
    values = λ h p l.
        ap (at us) {x = p} {y = 0 + p} (omega arith) ∙ new.within p l
        ∙ ap₂ (λ (y z : ℤ). cond (eqb a (2 ^ suc m - 1)) y (cut z)) (polled.front.same p l ∙ sym (get_or-take (2 ^ suc m) xs p (pos 0) l)) (all_sums p l)
        ∙ ap (λ (b : ℕ). cond (eqb b (2 ^ suc m - 1)) (at w p) (cut (sums m lower w p))) (sym all_silent)
        ∙ sym (at-updated m lower w p l);
  }

-- there were not leaves enough
pub round_spent : {m left : ℕ} {lower : List ℤ → Outcome} {xs ys : List ℤ} → left < round_leaves m lower (front_of (2 ^ suc m) xs) → length ys ≡ length xs
    → Renewed m left lower xs ys None
round_spent {m} {left} {lower} {xs} h e = record {
  said = rw (lt-ltb left (round_leaves m lower (front_of (2 ^ suc m) xs)) h);
  long = e;
  values = λ l. absurd (omega arith);
}

-- A direction of a round after its reading's answer, the decoded word in bits. Assumes nothing.
use Prim.Native.Nat.{ℕ, suc, ◌+◌, ◌-◌, ◌*◌, ◌^◌, ◌≤◌, ◌<◌}
use Rattle.std.proofs.Common.{zero-add, add-one, arith, subst, ◌∙◌, get_or-take}
use Rattle.std.specs.Prelude.{Ok, Err, ◌≡◌, refl, List, length, ℤ, pos, nat_abs, neg_ℤ}
use Rattle.std.proofs.Math.Path.{sym, ap, ap₂}
use Rattle.std.specs.Int.Bits.{bit_xor}
use Rattle.std.proofs.lemmas.Nat.{xor_lt}
use Rattle.std.proofs.Math.IntN.{◌+ℤ◌, +ℤ_idl, +ℤ_idr}
use borrow.Rule.Slice.PartMut.{put_mid}
use Rattle.words.specs.Parts.{part_length, at-part_of, written_part}
use Rattle.words.specs.Sum.{total}
use Rattle.words.specs.Written.{Written, written_none, written_to}
use Rattle.area.specs.Area.{at, Bits, IsBit, SameFront}
use Rattle.area.proofs.AreaLaws.{is_bit}
use Rattle.cosets.specs.Votes.{InProjection}
use Rattle.direction.specs.Direction.{coset_of}
use Rattle.direction.proofs.Members.{number_lt}
use Rattle.hadamard.specs.Correlation.{constant_of, signed}
use Rattle.rule.specs.Reading.{Outcome, abstains}
use Rattle.told.specs.Told.{Holds, Verdict, numbers_in, numbers_of}
use Rattle.told.specs.declared.Accepted.{Accepted}
use Rattle.told.specs.declared.Unread.{Unread}
use Rattle.steps.specs.Answers.{Numbered, by_answer}
use Rattle.steps.specs.Steps.{Voter}
use Rattle.confidences.specs.Confidences.{read, share}
use Rattle.confidences.proofs.ValueLaws.{same_values}
use Rattle.confidences.specs.Values.{Projects, Sums, front_of, heard_at}
use Rattle.value_orders.specs.SignLaws.{sign_bit}
use Rattle.value_readings.specs.LeafLaws.{hear_asks, kept_front}
use Rattle.value_readings.specs.Polls.{Heard, Poll, Polled, part_of, said_of}
use Rattle.value_readings.specs.PollLaws.{front_then, poll_more, written_front}

-- ---- bits become signs

-- they are lent as a part of k numbers from c on
module _ {m b c k : ℕ} {xs : List ℤ} (projects : Projects m b c xs) (sums : Sums (2 ^ suc m) xs) (bits : InProjection m xs)
    (place : c ≡ 4 * 2 ^ m) (many : k ≡ 2 ^ m) where
  fits : c + k ≤ length xs
  fits = omega (arith, projects.room)

  long : length (part_of c k xs) ≡ k
  long = part_length (pos 0) c k xs fits

  bit_here : (q : ℕ) → q < 2 ^ m → IsBit (at xs (c + q))
  bit_here q l = subst (λ (e : ℕ). IsBit (at xs (e + q))) (sym place) (bits.decoded q l)

  pub signs_asks : Bits (length (part_of c k xs)) (part_of c k xs)
  signs_asks = record {
    room = omega arith;
    bits = λ q l. subst IsBit (sym (at-part_of (pos 0) c k xs fits q (omega (arith, long)))) (bit_here q (omega (arith, long)));
  }

  module _ {ys : List ℤ} (same : length ys ≡ length (part_of c k xs))
      (signs : Written (pos 0) 0 (length (part_of c k xs)) (λ q. neg_ℤ (at (part_of c k xs) q)) (part_of c k xs) ys) where
    abbrev zs : List ℤ
    zs = put_mid c k xs ys

    turned : Written (pos 0) c (2 ^ m) (λ q. neg_ℤ (at xs (c + q))) xs zs
    turned =
        written_to
        (written_part (written_none (pos 0) c (λ q. neg_ℤ (at xs (c + q))) xs) c k ys (omega arith) fits (same ∙ long)
        (λ q l.
        ap (at ys) {x = q} {y = 0 + q} (omega arith)
        ∙ signs.within q (omega (arith, long))
        ∙ ap neg_ℤ (at-part_of (pos 0) c k xs fits q l)
        ∙ ap (λ (j : ℕ). neg_ℤ (at xs (c + j))) {x = q} {y = 0 + q} (omega arith)))
        (2 ^ m) (omega arith)

    front : SameFront (4 * 2 ^ m) xs zs
    front = written_front turned (omega arith)

    pub share_asks : Projects m b c zs × Sums (2 ^ suc m) zs
    share_asks = (
      record {
        direction = projects.direction;
        beyond = projects.beyond;
        room = omega (arith, turned.long, projects.room);
        values = same_values (written_front turned (omega arith)) projects.values;
      },
      record { small = λ p l. omega (arith, ap nat_abs (front.same (2 ^ suc m + p) (omega arith)), sums.small p l) },
    )

    pub bits_heard : {us : List ℤ} → Written (pos 0) (2 ^ suc m) (2 ^ suc m) (λ p. at zs (2 ^ suc m + p) +ℤ heard_at b c zs p) zs us
        → (w : Accepted) → Heard m b (Ok w) xs us
    bits_heard new w = record {
      front = record { long = new.long ∙ front.long; same = λ p h. new.below p h ∙ front.same p (omega arith) };
      sums = λ p h.
          let q : ℕ = coset_of b p in
          let u : q < 2 ^ m = number_lt projects.direction p h in
          new.within p h
          ∙ ap₂ ◌+ℤ◌ (front.same (2 ^ suc m + p) (omega arith))
          (ap₂ signed
          (ap constant_of (turned.within q u) ∙ sign_bit (bit_here q u) ∙ ap (λ (e : ℕ). nat_abs (at xs (e + q))) place)
          (front.same (bit_xor p b) (omega (arith, xor_lt (suc m) p b h projects.direction.under))));
    }

-- a direction that abstains
pub none_heard : (m b : ℕ) (xs : List ℤ) (u : Unread) → Heard m b (Err u) xs xs
none_heard m b xs u = record {
  front = record { long = refl; same = λ p h. refl };
  sums = λ p h. sym (+ℤ_idr (at xs (2 ^ suc m + p)));
}

-- ---- the answer and the outcome

-- a reading with the outcome o has left us, which came back into the area from 4 × 2^m on
pub record Answered (m : ℕ) (xs zs us : List ℤ) (answer : Verdict) (o : Outcome) : Type 0 where
  pub same : SameFront (4 * 2 ^ m) xs zs
  pub decoded : (q : ℕ) → q < 2 ^ m → at zs (4 * 2 ^ m + q) ≡ at us q
  pub numbered : Numbered o
  pub said : numbers_in answer ≡ numbers_of o
  pub holds : Holds (2 ^ m) o us

module _ {m i : ℕ} {lower : List ℤ → Outcome} {xs zs us : List ℤ} {answer : Verdict} {o : Outcome} (poll : Poll m lower i xs) (more : i < 2 ^ suc m - 1)
    (answered : Answered m xs zs us answer o) where
  open answered use {same, decoded, numbered, said, holds}

  room_here : 4 * 2 ^ m + 2 ^ m ≤ length xs
  room_here = omega (arith, poll.round.room)

  voter : Voter m answer zs
  voter =
      by_answer (λ (v : Verdict) (y : Outcome). Holds (2 ^ m) y us → Voter m v zs)
      (λ d w h. record { decoded = λ q u. subst IsBit (sym (decoded q u ∙ h.each q u)) (is_bit _ (h.bits q u)) })
      (λ u h. tt) answer o numbered said holds

  pub answer_asks : Projects m (i + 1) (4 * 2 ^ m) zs × (Sums (2 ^ suc m) zs × Voter m answer zs)
  answer_asks = let h = hear_asks poll more (add-one i) same (omega arith) room_here in (h.0, (h.1, voter))

  said_is : (p : ℕ) → p < 2 ^ suc m → said_of m (i + 1) zs answer p ≡ share (suc i) (front_of (2 ^ suc m) xs) o p
  said_is p u =
      let b : ℕ = suc i in
      let q : ℕ = coset_of b p in
      ap (λ (d : ℕ). said_of m d zs answer p) (add-one i)
      ∙ by_answer (λ (v : Verdict) (y : Outcome). Holds (2 ^ m) y us → said_of m b zs v p ≡ share b (front_of (2 ^ suc m) xs) y p)
      (λ d w h.
      let f : q < 2 ^ m = number_lt (hear_asks poll more refl same (omega arith) room_here).0.direction p u in
      ap₂ (λ (y z : ℤ). signed (nat_abs y) z) (decoded q f ∙ h.each q f)
      (same.same (bit_xor p b) (omega (arith, xor_lt (suc m) p b u (omega arith)))
      ∙ sym (get_or-take (2 ^ suc m) xs (bit_xor p b) (pos 0) (xor_lt (suc m) p b u (omega arith)))))
      (λ u h. refl) answer o numbered said holds

  -- where the leaves sufficed
  pub answer_more : {ts : List ℤ} → o ≡ read m lower (front_of (2 ^ suc m) xs) i → Heard m (i + 1) answer zs ts → Polled m lower i (i + 1) xs ts (abstains o)
  unfolding total
  answer_more {ts} e heard =
      poll_more poll 1 (abstains o) (omega arith) (front_then (kept_front poll same) heard.front)
      (λ p l.
      heard.sums p l
      ∙ ap₂ ◌+ℤ◌ (same.same (2 ^ suc m + p) (omega arith))
      (said_is p l
      ∙ ap (λ (y : Outcome). share (suc i) (front_of (2 ^ suc m) xs) y p) e
      ∙ ap (λ (j : ℕ). share (suc j) (front_of (2 ^ suc m) xs) (read m lower (front_of (2 ^ suc m) xs) j) p) {x = i} {y = i + 0} (omega arith)
      ∙ sym (+ℤ_idl _)))
      (ap abstains e ∙ ap (λ (j : ℕ). abstains (read m lower (front_of (2 ^ suc m) xs) j)) {x = i} {y = i + 0} (omega arith) ∙ sym (zero-add _))

-- Laws of the loop over the blocks, and of what it asks of its callers. Assumes nothing.
use Rattle.std.specs.Prelude.{ℕ, suc, ◌+◌, ◌-◌, ◌*◌, ◌≤◌, ◌<◌, ◌≡◌, List, length, take, drop}
use Rattle.std.proofs.Common.{arith, sym, ap, ◌∙◌, [], ◌∷◌, mul-le-mul_right, lt_of_mul-lt-mul_right, length-drop, length-take-le}
use Rattle.std.proofs.Math.Nat.{suc-mul, zero-mul}
use Rattle.std.proofs.Math.Seq.{drop-drop}
use Rattle.std.proofs.lemmas.Slice.{drop-put_mid}
use borrow.Rule.Slice.PartMut.{put_mid}
use Rattle.words.specs.Butterflies.{Blocked, BlocksDone, Entries, Rule}
use Rattle.words.specs.ButterflyLaws.{drop_room, less_room, take_room}
use Rattle.words.specs.Blocks.{Keeps, block_back}
use Rattle.transforms.specs.EachBlock.{Whole}

-- the loop stands at place b, the start of a block or the end
pub record Passed (s n b : ℕ) : Type 0 where
  pub count : ℕ
  pub place : b ≡ count * s
  pub within : b ≤ n

pub passed_none : (s n : ℕ) → Passed s n 0
passed_none s n = record { count = 0; place = sym (zero-mul s); within = omega arith }

module _ {s n b : ℕ} (w : Whole s n) (p : Passed s n b) (l : b < n) where
  -- the next block is whole
  pub block_within : b + s ≤ n
  block_within =
      let less : p.count < w.count = lt_of_mul-lt-mul_right s (omega (arith, p.place, w.size)) in
      omega (arith, p.place, w.size, mul-le-mul_right s less, suc-mul p.count s)

  pub passed_more : Passed s n (b + s)
  passed_more = record { count = suc p.count; place = rw suc-mul (omega (arith, p.place)); within = block_within }

-- entries of which nothing is asked
anything : {A : Type 0} → A → Rule A
anything x = record {
  none = x;
  low = λ y z. y;
  high = λ y z. z;
  Room = λ j y. Unit {0};
  room_none = λ j. tt;
  room_low = λ j y z hy hz. tt;
  room_high = λ j y z hy hz. tt;
  room_less = λ j k y l h. tt;
}

module _ {A : Type 0} where
  -- a turn changes one block
  pub each_turn :
      {f : List A → List A} {s b : ℕ} {a₀ a r : List A} → Keeps f s → Whole s (length a₀) → BlocksDone f s b a₀ a → b < length a₀
      → r ≡ f (take (b + s - b) (drop b a)) → BlocksDone f s (b + s) a₀ (put_mid b (b + s - b) a r)
  unfolding anything
  each_turn {s = s} {a₀ = []} keep w d l e = absurd (omega arith)
  each_turn {s = s} {a₀ = x ∷ xs} keep w d l e =
      let start : 0 < length (x ∷ xs) = omega arith in
      let first : s ≤ length (x ∷ xs) = omega (arith, block_within w (passed_none s (length (x ∷ xs))) start) in
      block_back {R = anything x} {j = 0} keep
      (record { some = w.some; fits = first; count = w.count; size = w.size; room = record { each = λ i. tt } }) d l e

  -- and leaves those after it
  pub each_rest :
      (s b : ℕ) (a₀ a r : List A) → b + s ≤ length a → length r ≡ b + s - b → drop b a ≡ drop b a₀
      → drop (b + s) (put_mid b (b + s - b) a r) ≡ drop (b + s) a₀
  each_rest s b a₀ a r l e h =
      drop-put_mid b (b + s - b) a r (b + s) (omega arith) (omega arith) e
      ∙ sym (drop-drop s b a) ∙ ap (drop s) h ∙ drop-drop s b a₀

  -- a block is as it was until its turn
  pub each_lent : (s b : ℕ) (a₀ a : List A) → drop b a ≡ drop b a₀ → take (b + s - b) (drop b a) ≡ take s (drop b a₀)
  each_lent s b a₀ a h =
      let cut : b + s - b ≡ s = omega arith in
      rw (h, cut)

  -- what a caller gives: the entries of a block
  pub block_of : {R : Rule A} {s j : ℕ} {a : List A} → Blocked R s j a → (i : ℕ) → i ≤ j → (b : ℕ) → b + s ≤ length a → Entries R s i (take s (drop b a))
  block_of {R} {s} {j} {a} w i h b l =
      record {
        size = length-take-le s (drop b a) (rw length-drop (omega arith));
        room = less_room R (take_room R (drop_room R w.room b) s) i h;
      }

-- Two levels of a transform by halves at once, and the laws of its blocks. Assumes nothing.
use Prim.Native.Nat.{ℕ, zero, suc, ◌+◌, ◌-◌, ◌*◌, ◌^◌, ◌≤◌, ◌<◌}
use Rattle.std.specs.Prelude.{◌≡◌, take, drop}
use Rattle.std.proofs.Math.Path.{refl, sym, ap}
use Rattle.std.proofs.Common.{◌∙◌, ⊎_elim, add-mul, mul-add, pow_pos, pow_mono, length-append, length-drop, take-add}
use mathlib.Core.List.{List, ◌++◌, append_assoc}
use Rattle.std.proofs.Math.Nat.{suc-mul}
use native.Mathlib.Omega.{arith}
use Rattle.std.proofs.Math.ListN.{length}
use Rattle.std.proofs.Math.Seq.{length-take-le, take_at, drop_at, drop-drop}
use Rattle.words.specs.Blocks.{Keeps, length-blocks}
use Rattle.words.specs.Butterflies.{Blocked, BlocksDone, Entries, Rule, blocks, butterflies}
use Rattle.words.specs.ButterflyLaws.{length-butterflies}
use Rattle.words.specs.Levels.{Transformed, butterflies_keep, level_done, transformed_length, transformed_room, whole_blocks}
use Rattle.words.specs.SumLaws.{le_or_lt}

module _ {A : Type 0} (R : Rule A) where
  -- of four parts of h entries: the butterflies of the first two and of the last two, then theirs
  unfoldable pub twice : ℕ → List A → List A
  twice h a = butterflies R (h + h) (butterflies R h (take (h + h) a) ++ butterflies R h (drop (h + h) a))

  pub length-twice : (h : ℕ) (a : List A) → length (twice h a) ≡ 4 * h
  unfolding twice
  length-twice h a = length-butterflies R (h + h) _ ∙ omega arith

  pub twice_keeps : (h : ℕ) → Keeps (twice h) (4 * h)
  twice_keeps h = record { keeps = λ b e. length-twice h b }

  -- ---- blocks of two levels are two levels of blocks

  twice_block :
      (h : ℕ) (a : List A) → h + h ≤ length a
      → twice h (take (h + h + (h + h)) a) ≡ butterflies R (h + h) (butterflies R h (take (h + h) a) ++ butterflies R h (take (h + h) (drop (h + h) a)))
  unfolding twice
  twice_block h a l =
      let s : ℕ = h + h in
      let e : length (take s a) ≡ s = length-take-le s a l in
      rw (take-add s s a, take_at (take s a) (take s (drop s a)) s e, drop_at (take s a) (take s (drop s a)) s e)

  twice_levels :
      (h n : ℕ) (a : List A) → n * (h + h + (h + h)) ≤ length a
      → blocks (butterflies R (h + h)) (h + h + (h + h)) n (blocks (butterflies R h) (h + h) (n + n) a) ≡ blocks (twice h) (h + h + (h + h)) n a
  unfolding blocks
  twice_levels h zero a l = refl
  twice_levels h (suc n) a l =
      let s : ℕ = h + h in
      let l' : n * (s + s) + (s + s) ≤ length a = rw suc-mul at l in
      let x : List A = butterflies R h (take s a) in
      let y : List A = butterflies R h (take s (drop s a)) in
      let z : List A = blocks (butterflies R h) s (n + n) (drop s (drop s a)) in
      let ld : length (drop s (drop s a)) ≡ length a - s - s = rw (length-drop, length-drop) in
      let xy : length (x ++ y) ≡ s + s = rw (length-append, length-butterflies R h (take s a), length-butterflies R h (take s (drop s a))) in
      let two : suc n + suc n ≡ suc (suc (n + n)) = omega arith in
      let split : blocks (butterflies R h) s (suc n + suc n) a ≡ x ++ y ++ z =
      ap (λ (i : ℕ). blocks (butterflies R h) s i a) two ∙ sym (append_assoc x y z) in
      rw (
        split,
        take_at (x ++ y) z (s + s) xy,
        drop_at (x ++ y) z (s + s) xy,
        twice_block h a (omega arith),
        twice_levels h n (drop s (drop s a)) (omega arith),
        drop-drop s s a,
      )

  -- ---- how far two levels bring the transform of x

  module _ {m h : ℕ} {x a : List A} (e : Entries R (2 ^ m) m x) (t : Transformed R m h x a) (l : 4 * h ≤ length a) where
    two_below : t.exponent + 2 ≤ m
    two_below =
        ⊎_elim (λ g. g)
        (λ (g : m < t.exponent + 2).
        let less : m ≤ suc t.exponent = omega arith in
        absurd (omega (arith, pow_mono less, pow_pos t.exponent, transformed_length R e t, t.height)))
        (le_or_lt (t.exponent + 2) m)

    -- the blocks of the next two levels
    pub next_two : Blocked R (4 * h) 2 a
    next_two =
        let j : ℕ = t.exponent in
        let w : Blocked R (2 ^ suc (suc j)) 2 x = whole_blocks R e (suc (suc j)) 2 (omega (arith, two_below)) (omega (arith, two_below)) in
        let s : 2 ^ suc (suc j) ≡ 4 * h = omega (arith, t.height) in
        record {
          some = omega (arith, w.some);
          fits = l;
          count = w.count;
          size = t.done.size ∙ w.size ∙ ap (λ (i : ℕ). w.count * i) s;
          room = transformed_room R e t 2 two_below;
        }

    pub two_done : {r : List A} → BlocksDone (twice h) (4 * h) (length a) a r → Transformed R m (4 * h) x r
    two_done {r} d =
        let s : ℕ = h + h in
        let n : ℕ = d.count in
        let four : 4 * h ≡ s + s = omega arith in
        let some : 0 < h = rw t.height (pow_pos t.exponent) in
        let place : length a ≡ n * (s + s) = d.place ∙ ap (λ (i : ℕ). n * i) four in
        let halves : length a ≡ (n + n) * s = place ∙ mul-add n s s ∙ sym (add-mul n n s) in
        let mid : List A = blocks (butterflies R h) s (n + n) a in
        let size : length mid ≡ length a = length-blocks (butterflies_keep R h) (n + n) a (omega arith) in
        let first : Transformed R m s x mid =
        level_done R e t (omega arith) record { count = n + n; place = halves; within = omega arith; size = size; done = refl } in
        rw four
        (level_done R e first (omega arith)
        record {
          count = n;
          place = size ∙ place;
          within = omega arith;
          size = d.size ∙ sym size;
          done = d.done ∙ ap (λ (i : ℕ). blocks (twice h) i n a) four ∙ sym (twice_levels h n a (omega arith));
        })

-- Four directions at a time: their projections are read one after the other, and then all that they say is added. Assumes nothing.
use Prim.Native.Nat.{ℕ, suc, ◌+◌, ◌-◌, ◌*◌, ◌^◌, ◌≤◌, ◌<◌}
use mathlib.Core.Path.{◌≡◌, ap}
use mathlib.Core.Bool.{Bool, true}
use mathlib.Core.List.{List}
use native.Mathlib.Omega.{arith}
use lib.IntN.{ℤ, pos, ◌+ℤ◌}
use Rattle.words.specs.Written.{Written}
use Rattle.area.specs.Area.{at}
use Rattle.confidences.specs.Values.{ProjectsFour, Sums, four_projected, front_of}
use Rattle.value_steps.specs.Shares.{four_words, words_at}
use Rattle.value_readings.specs.Polls.{LeafAt, Poll, Polled, ReadAt, leaf, silences}
use Rattle.value_readings.specs.LeafLaws.{Quad, quad_first, quad_leaf, quad_more, quad_read, quad_words}

-- ps is the area xs with the four projections, and n is 2^m
module _ {m k n : ℕ} {xs ps : List ℤ} (some : 1 ≤ k) (under : 4 * k < 2 ^ suc m) (poll : Poll m (leaf m) (4 * k - 1) xs) (size : n ≡ 2 ^ m)
    (projected : Written (pos 0) (4 * 2 ^ m) (4 * 2 ^ m) (four_projected m k (front_of (2 ^ suc m) xs)) xs ps) where
  place : (j : ℕ) → j * n ≡ j * 2 ^ m
  place j = ap (λ (n : ℕ). j * n) size

  none : (w : ℕ → Bool) → Quad m k 0 w xs ps
  none w = quad_first some under poll projected

  pub first_leaf : LeafAt m (4 * n) ps
  first_leaf = quad_leaf (none (four_words true true true true)) (omega arith) (omega (arith, place 4))

  module _ {a : Bool} {ya : List ℤ} (ra : ReadAt m (4 * n) ps ya a) where
    one : (x y z : Bool) → Quad m k 1 (four_words a x y z) xs ya
    one x y z = quad_read (none (four_words a x y z)) (omega arith) (omega (arith, place 4)) ra

    pub second_leaf : LeafAt m (5 * n) ya
    second_leaf = quad_leaf (one true true true) (omega arith) (omega (arith, place 5))

    module _ {b : Bool} {yb : List ℤ} (rb : ReadAt m (5 * n) ya yb b) where
      two : (y z : Bool) → Quad m k 2 (four_words a b y z) xs yb
      two y z = quad_read (one b y z) (omega arith) (omega (arith, place 5)) rb

      pub third_leaf : LeafAt m (6 * n) yb
      third_leaf = quad_leaf (two true true) (omega arith) (omega (arith, place 6))

      module _ {c : Bool} {yc : List ℤ} (rc : ReadAt m (6 * n) yb yc c) where
        three : (z : Bool) → Quad m k 3 (four_words a b c z) xs yc
        three z = quad_read (two c z) (omega arith) (omega (arith, place 6)) rc

        pub fourth_leaf : LeafAt m (7 * n) yc
        fourth_leaf = quad_leaf (three true) (omega arith) (omega (arith, place 7))

        module _ {d : Bool} {yd : List ℤ} (rd : ReadAt m (7 * n) yc yd d) where
          four : Quad m k 4 (four_words a b c d) xs yd
          four = quad_read (three d) (omega arith) (omega (arith, place 7)) rd

          pub share_asks : ProjectsFour m k yd × Sums (2 ^ suc m) yd
          share_asks = quad_words four

          pub four_heard : {us : List ℤ} {s : ℕ} → s ≡ silences (four_words a b c d)
              → Written (pos 0) (2 ^ suc m) (2 ^ suc m) (λ p. at yd (2 ^ suc m + p) +ℤ words_at m k (four_words a b c d) yd p) yd us
              → Polled m (leaf m) (4 * k - 1) (4 * k + 3) xs us s
          four_heard count new =
              let last : 4 * k - 1 + 4 ≡ 4 * k + 3 = omega (arith, some) in
              rw (count, ← last) (quad_more four new)

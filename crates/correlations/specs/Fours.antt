-- The transform of 4 numbers, as straight code computes it: two sums and two differences, then theirs. Assumes nothing.
use Rattle.std.specs.Prelude.{ℕ, ◌^◌, ◌<◌, ◌≡◌, List, ℤ, neg_ℤ, nat_abs, set}
use Rattle.std.proofs.Math.Path.{ap₂}
use Rattle.std.proofs.Common.{◌∙◌, arith}
use Rattle.std.proofs.Math.IntN.{◌+ℤ◌, ◌-ℤ◌}
use Rattle.area.specs.Area.{at}
use Rattle.area.specs.Numbers.{Half, difference_stored, nat_abs-add, nat_abs_neg, stored, stored-eq, sum_stored}
use Rattle.hadamard.specs.Transform.{sums}
use Rattle.words.specs.Butterflies.{Entries, halved}
use Rattle.words.specs.ButterflyLaws.{set_four}

-- a sum and a difference, as the code computes them
abbrev pub plus : ℤ → ℤ → ℤ
plus x y = stored x +ℤ stored y

abbrev pub minus : ℤ → ℤ → ℤ
minus x y = stored x -ℤ stored y

module _ {a : List ℤ} (e : Entries sums 4 2 a) where
  small : (i : ℕ) → nat_abs (at a i) < 2 ^ 29
  unfolding sums
  small i = omega (arith, e.room.each i)

  same : (i : ℕ) → stored (at a i) ≡ at a i
  same i = stored-eq (at a i) (omega (arith, small i))

  pub entry_half : (i : ℕ) → Half (at a i)
  entry_half i = record { half = omega (arith, small i) }

  module _ (i j : ℕ) where
    plus_is : plus (at a i) (at a j) ≡ at a i +ℤ at a j
    plus_is = ap₂ ◌+ℤ◌ (same i) (same j)

    minus_is : minus (at a i) (at a j) ≡ at a i -ℤ at a j
    minus_is = ap₂ ◌-ℤ◌ (same i) (same j)

    pub plus_half : Half (plus (at a i) (at a j))
    plus_half = rw plus_is (record { half = omega (arith, nat_abs-add (at a i) (at a j), small i, small j) })

    pub minus_half : Half (minus (at a i) (at a j))
    minus_half = rw minus_is (record { half = omega (arith, nat_abs-add (at a i) (neg_ℤ (at a j)), nat_abs_neg (at a j), small i, small j) })

  pub four_summed :
      let s = plus (at a 0) (at a 1) in
      let d = minus (at a 0) (at a 1) in
      let t = plus (at a 2) (at a 3) in
      let f = minus (at a 2) (at a 3) in
      set (set (set (set a 0 (stored (plus s t))) 1 (stored (plus d f))) 2 (stored (minus s t))) 3 (stored (minus d f)) ≡ halved sums 2 a
  unfolding sums
  four_summed =
      set_four sums a e.size
      (sum_stored (plus_half 0 1) (plus_half 2 3) ∙ ap₂ ◌+ℤ◌ (plus_is 0 1) (plus_is 2 3))
      (sum_stored (minus_half 0 1) (minus_half 2 3) ∙ ap₂ ◌+ℤ◌ (minus_is 0 1) (minus_is 2 3))
      (difference_stored (plus_half 0 1) (plus_half 2 3) ∙ ap₂ ◌-ℤ◌ (plus_is 0 1) (plus_is 2 3))
      (difference_stored (minus_half 0 1) (minus_half 2 3) ∙ ap₂ ◌-ℤ◌ (minus_is 0 1) (minus_is 2 3))

-- The sizes of a quad, from how far the bytes of its pairs are from 128. Assumes nothing.
use Prim.Native.Nat.{ℕ, suc, ◌+◌, ◌/◌, ◌%◌, ◌^◌, ◌≤◌, ◌<◌}
use mathlib.Core.Path.{◌≡◌, ap, ◌∙◌}
use native.Mathlib.Omega.{arith}
use lib.IntN.{ℤ, pos, negsuc, neg_ℤ, nat_abs, ◌+ℤ◌, ◌-ℤ◌}
use borrow.Author.Tests.{le-ltb}
use Rattle.area.specs.Numbers.{stored, stored-eq, nat_abs-add, nat_abs_neg}
use Rattle.quads.specs.Quads.{number_of, first_sum, last_sum, first_difference, last_difference, sum_size, difference_size, Bounded}
use Rattle.keys.specs.Keys.{bytes, up, off, offs, pairs}
use Rattle.keys.specs.Bytes.{first_byte, second_byte, third_byte, fourth_byte}

-- ---- one number

off-up : (x : ℤ) → nat_abs x ≤ 64 → off (up x) ≡ nat_abs x
off-up (pos n) h = omega arith
off-up (negsuc n) h = rw (le-ltb 128 (suc n) (omega arith)) (omega arith)

up-lt : (x : ℤ) → nat_abs x ≤ 64 → up x < 256
up-lt x h = omega (arith, nat_abs-add x (pos 128))

-- ---- the sum and the difference of two

module _ (x y : ℤ) (hx : nat_abs x ≤ 32) (hy : nat_abs y ≤ 32) where
  sum_le : nat_abs (x +ℤ y) ≤ 64
  sum_le = omega (arith, nat_abs-add x y)

  difference_le : nat_abs (x -ℤ y) ≤ 64
  difference_le = omega (arith, nat_abs-add x (neg_ℤ y), nat_abs_neg y)

-- ---- four numbers side by side

module _ (a b c d : ℤ) (ha : nat_abs a ≤ 64) (hb : nat_abs b ≤ 64) (hc : nat_abs c ≤ 64) (hd : nat_abs d ≤ 64) where
  sizes_apart : offs (bytes (up a) (up b) (up c) (up d)) ≡ bytes (nat_abs a) (nat_abs b) (nat_abs c) (nat_abs d)
  sizes_apart =
      let p = up-lt a ha in
      let q = up-lt b hb in
      let r = up-lt c hc in
      let s = up-lt d hd in
      rw (
        first_byte (up a) (up b) (up c) (up d) p q r s,
        second_byte (up a) (up b) (up c) (up d) p q r s,
        third_byte (up a) (up b) (up c) (up d) p q r s,
        fourth_byte (up a) (up b) (up c) (up d) p q r s,
        off-up a ha,
        off-up b hb,
        off-up c hc,
        off-up d hd,
      )

-- the sum of the two halves
module _ (f a b c d : ℕ) (e : f ≡ bytes a b c d) (ha : a ≤ 64) (hb : b ≤ 64) (hc : c ≤ 64) (hd : d ≤ 64) where
  halves : f + f / 65536 ≡ bytes (a + c) (b + d) c d
  halves = omega arith

  halves_room : f + f / 65536 < 2 ^ 32
  halves_room = omega (arith, halves)

  halves_first : (f + f / 65536) % 256 ≡ a + c
  halves_first =
      ap (λ (x : ℕ). x % 256) halves ∙ first_byte (a + c) (b + d) c d (omega arith) (omega arith) (omega arith) (omega arith)

  halves_second : (f + f / 65536) / 256 % 256 ≡ b + d
  halves_second =
      ap (λ (x : ℕ). x / 256 % 256) halves ∙ second_byte (a + c) (b + d) c d (omega arith) (omega arith) (omega arith) (omega arith)

-- ---- the sizes of a quad

module _ {z : ℤ} (h : Bounded z) where
  pub quad_held : stored z ≡ z
  quad_held = stored-eq z (omega arith)

  first_sum_lem : nat_abs (first_sum z) ≤ 64
  first_sum_lem = sum_le (number_of 1 z) (number_of 256 z) h.first h.second

  first_difference_lem : nat_abs (first_difference z) ≤ 64
  first_difference_lem = difference_le (number_of 1 z) (number_of 256 z) h.first h.second

  last_sum_lem : nat_abs (last_sum z) ≤ 64
  last_sum_lem = sum_le (number_of 65536 z) (number_of 16777216 z) h.third h.fourth

  last_difference_lem : nat_abs (last_difference z) ≤ 64
  last_difference_lem = difference_le (number_of 65536 z) (number_of 16777216 z) h.third h.fourth

  pub sum_most : sum_size z ≤ 128
  sum_most = omega (arith, first_sum_lem, last_sum_lem)

  pub difference_most : difference_size z ≤ 128
  difference_most = omega (arith, first_difference_lem, last_difference_lem)

  -- f, as the code makes it of z
  module _ {f g : ℕ} (ef : f ≡ pairs (stored z)) (eg : g ≡ offs f) where
    apart : g ≡ bytes (nat_abs (first_sum z)) (nat_abs (first_difference z)) (nat_abs (last_sum z)) (nat_abs (last_difference z))
    apart =
        eg ∙ ap offs (ef ∙ ap pairs quad_held)
        ∙ sizes_apart (first_sum z) (first_difference z) (last_sum z) (last_difference z) first_sum_lem first_difference_lem last_sum_lem last_difference_lem

    pub sizes_room : g + g / 65536 < 2 ^ 32
    sizes_room = halves_room g _ _ _ _ apart first_sum_lem first_difference_lem last_sum_lem last_difference_lem

    pub sizes_are : ((g + g / 65536) % 256 ≡ sum_size z) × ((g + g / 65536) / 256 % 256 ≡ difference_size z)
    sizes_are = (
      halves_first g _ _ _ _ apart first_sum_lem first_difference_lem last_sum_lem last_difference_lem,
      halves_second g _ _ _ _ apart first_sum_lem first_difference_lem last_sum_lem last_difference_lem,
    )

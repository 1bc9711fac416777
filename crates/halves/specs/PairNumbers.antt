-- The numbers of a packed pair, and their sizes in a list. Assumes nothing.
use Rattle.std.specs.Prelude.{ℕ, ◌+◌, ◌-◌, ◌*◌, ◌/◌, ◌%◌, ◌≤◌, ◌<◌, ◌≡◌, List, ℤ, ◌+ℤ◌, ◌-ℤ◌, length, take, drop}
use Rattle.std.proofs.Math.Path.{ap}
use Rattle.std.proofs.Common.{ap₂, ◌∙◌, arith}
use Rattle.std.proofs.Math.IntN.{pos, nat_abs}
use Rattle.words.specs.Parts.{at-part_of, part_length}
use Rattle.words.specs.Written.{Written}
use Rattle.area.specs.Area.{at}
use Rattle.area.specs.Numbers.{nat_abs-add}
use Rattle.peaks.specs.Found.{Held}
use Rattle.peaks.specs.Packing.{lifted, lifted_back, packed_size, packed_sum}
use Rattle.halves.specs.Halves.{packed, raised, first_in, second_of, size_of, Packed}

module _ (x y : ℤ) (hx : nat_abs x ≤ 512) (hy : nat_abs y ≤ 512) where
  pub packed_small : nat_abs (packed x y) < 2097152
  packed_small = omega (arith, packed_size 2048 x y)

  -- the two digits
  raised_digits : raised (packed x y) ≡ nat_abs (x +ℤ pos 1024) + nat_abs (y +ℤ pos 1024) * 2048
  raised_digits = ap nat_abs (packed_sum 2048 x y (pos 1024) (pos 1024) ∙ ap₂ packed (lifted 1024 x (omega arith)) (lifted 1024 y (omega arith)))

  pub first_packed : first_in (packed x y) ≡ x
  unfolding first_in
  first_packed =
      let digit : raised (packed x y) % 2048 ≡ nat_abs (x +ℤ pos 1024) = omega (arith, raised_digits, nat_abs-add x (pos 1024)) in
      ap (λ (d : ℕ). pos d -ℤ pos 1024) digit ∙ lifted_back 1024 x (omega arith)

  pub second_packed : second_of (packed x y) ≡ y
  unfolding second_of
  second_packed =
      let digit : raised (packed x y) / 2048 ≡ nat_abs (y +ℤ pos 1024) = omega (arith, raised_digits, nat_abs-add x (pos 1024)) in
      ap (λ (d : ℕ). pos d -ℤ pos 1024) digit ∙ lifted_back 1024 y (omega arith)

-- ---- their sizes

-- written after them, as the code takes `[h..h + h]`
pub sizes_held :
    {h : ℕ} {xs ys : List ℤ} → Packed h xs → Written (pos 0) h h (λ i. pos (size_of (at xs i))) xs ys
    → Held h (λ i. first_in (at xs i)) (λ i. second_of (at xs i)) (take ((h + h) - h) (drop h ys))
sizes_held {h} {ys = ys} k w =
    let room : h + h ≤ length ys = omega (arith, w.long, k.size) in
    let all : (h + h) - h ≡ h = omega arith in
    rw all (record { long = part_length (pos 0) h h ys room; each = λ i l. at-part_of (pos 0) h h ys room i l ∙ w.within i l })

pub sizes_small : {h : ℕ} {xs : List ℤ} → Packed h xs → (i : ℕ) → i < h → size_of (at xs i) ≤ 1024
sizes_small k i l = omega (arith, k.first i l, k.second i l)

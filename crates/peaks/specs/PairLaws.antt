-- Pairs as a search of their sizes reads them. Assumes nothing.
use Rattle.std.specs.Prelude.{ℕ, ◌+◌, ◌^◌, ◌<◌, ◌≡◌, List, ℤ, pos, nat_abs, ◌+ℤ◌, ◌-ℤ◌}
use Rattle.std.proofs.Common.{ap, ap₂, ◌∙◌, arith, SFits}
use Rattle.std.specs.Int.{w32}
use Rattle.area.specs.Area.{at}
use Rattle.area.specs.Numbers.{Half, difference_fits, difference_stored, stored, stored-eq, sum_fits, sum_stored}
use Rattle.peaks.specs.OnePair.{lesser_most, lesser_size_lem}
use Rattle.peaks.specs.Peaks.{Pairs, lesser_size, lesser_sizes, pair_size, pair_sizes}

-- ---- one pair

-- a number and its absolute value, as the code passes them on
module _ (x : ℤ) (small : nat_abs x < 2 ^ 29) where
  read_is : stored x ≡ x
  read_is = stored-eq x (omega arith)

  pub size_asked : nat_abs (stored x) < 2 ^ 31
  size_asked = rw read_is (omega arith)

  size_is : {a : ℤ} → a ≡ pos (nat_abs (stored x)) → a ≡ pos (nat_abs x)
  size_is e = e ∙ ap (λ (z : ℤ). pos (nat_abs z)) read_is

  size_half : {a : ℤ} → a ≡ pos (nat_abs (stored x)) → Half a
  size_half e = record { half = omega (arith, ap nat_abs (size_is e)) }

module _ (x y : ℤ) (hx : nat_abs x < 2 ^ 29) (hy : nat_abs y < 2 ^ 29) {a b : ℤ} (ea : a ≡ pos (nat_abs (stored x))) (eb : b ≡ pos (nat_abs (stored y))) where
  pub pair_fits : SFits w32 (stored a +ℤ stored b)
  pair_fits = sum_fits (size_half x hx ea) (size_half y hy eb)

  pub pair_added : stored (stored a +ℤ stored b) ≡ pos (pair_size x y)
  pair_added = sum_stored (size_half x hx ea) (size_half y hy eb) ∙ ap₂ ◌+ℤ◌ (size_is x hx ea) (size_is y hy eb)

  -- the difference of the two sizes
  pub rest_fits : SFits w32 (stored a -ℤ stored b)
  rest_fits = difference_fits (size_half x hx ea) (size_half y hy eb)

  rest_read : stored (stored a -ℤ stored b) ≡ pos (nat_abs x) -ℤ pos (nat_abs y)
  rest_read = difference_stored (size_half x hx ea) (size_half y hy eb) ∙ ap₂ ◌-ℤ◌ (size_is x hx ea) (size_is y hy eb)

  pub rest_asked : nat_abs (stored (stored a -ℤ stored b)) < 2 ^ 31
  rest_asked = rw rest_read (omega (arith, lesser_size_lem x y, lesser_most x y))

  pub rest_is : {d : ℤ} → d ≡ pos (nat_abs (stored (stored a -ℤ stored b))) → d ≡ pos (lesser_size x y)
  rest_is e = e ∙ ap (λ (z : ℤ). pos (nat_abs z)) rest_read

-- ---- pair i of a list

module _ {h : ℕ} {xs : List ℤ} (k : Pairs h xs) {i : ℕ} (l : i < h) where
  first_small : nat_abs (at xs i) < 2 ^ 29
  first_small = omega (arith, k.small i (omega arith))

  second_small : nat_abs (at xs (h + i)) < 2 ^ 29
  second_small = omega (arith, k.small (h + i) (omega arith))

  pub first_read : stored (at xs i) ≡ at xs i
  first_read = read_is (at xs i) first_small

  pub second_read : stored (at xs (h + i)) ≡ at xs (h + i)
  second_read = read_is (at xs (h + i)) second_small

  pub pair_asked : (nat_abs (stored (at xs i)) < 2 ^ 29) × (nat_abs (stored (at xs (h + i))) < 2 ^ 29)
  pair_asked = (rw first_read first_small, rw second_read second_small)

  pub pair_small : pair_sizes h xs i < 2 ^ 21
  pair_small = omega (arith, k.small i (omega arith), k.small (h + i) (omega arith))

  pub pair_is : {x : ℤ} → x ≡ pos (pair_size (stored (at xs i)) (stored (at xs (h + i)))) → x ≡ pos (pair_sizes h xs i)
  pair_is e = e ∙ ap₂ (λ (y z : ℤ). pos (pair_size y z)) first_read second_read

  pub lesser_small : lesser_sizes h xs i < 2 ^ 21
  lesser_small = omega (arith, lesser_size_lem (at xs i) (at xs (h + i)), lesser_most (at xs i) (at xs (h + i)), pair_small)

  pub lesser_read : {x : ℤ} → x ≡ pos (lesser_size (stored (at xs i)) (stored (at xs (h + i)))) → x ≡ pos (lesser_sizes h xs i)
  lesser_read e = e ∙ ap₂ (λ (y z : ℤ). pos (lesser_size y z)) first_read second_read

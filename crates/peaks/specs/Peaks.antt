-- Numbers packed in one, the sizes of pairs, and the peak of some values. Assumes nothing.
use Rattle.std.specs.Prelude.{ℕ, ◌+◌, ◌-◌, ◌^◌, ◌≤◌, ◌<◌, ◌≡◌, Bool, true, false, cond, List, ◌≢◌, eqb, ltb, ℤ, pos, nat_abs, ◌+ℤ◌, ◌-ℤ◌, ◌*ℤ◌, length, Option, IfSome, Result, Ok, Err, is_ok}
use Rattle.std.specs.Option.{is_some}
use Rattle.words.specs.Sum.{greatest_below, sum_below}
use Rattle.area.specs.Area.{at}
use Rattle.hadamard.specs.Correlation.{constant_of, count_below, first_below}
use Rattle.peaks.specs.declared.Peak.{Peak}

-- ---- pairs

-- x and y in one number, as digits to base b, where both are small
abbrev pub packed_by : ℕ → ℤ → ℤ → ℤ
packed_by b x y = x +ℤ y *ℤ pos b

-- the greater of |x + y| and |x - y|
abbrev pub pair_size : ℤ → ℤ → ℕ
pair_size x y = nat_abs x + nat_abs y

-- the other of them
abbrev pub lesser_size : ℤ → ℤ → ℕ
lesser_size x y = nat_abs (pos (nat_abs x) -ℤ pos (nat_abs y))

-- a list of sizes
pub record Sizes (xs : List ℤ) : Type 0 where
  pub few : length xs ≤ 512
  pub whole : (i : ℕ) → i < length xs → at xs i ≡ pos (nat_abs (at xs i))
  pub small : (i : ℕ) → i < length xs → nat_abs (at xs i) ≤ 1024

-- the sum of 65536 + i over the places i below n where f is x
unfoldable pub keys_below : ℕ → (ℕ → ℕ) → ℕ → ℕ
keys_below n f x = sum_below n (λ i. cond (eqb (f i) x) (65536 + i) 0)

-- the sums of h pairs, then their differences
abbrev pub joined : ℕ → (ℕ → ℤ) → (ℕ → ℤ) → ℕ → ℤ
joined h x y u = cond (ltb u h) (x u +ℤ y u) (x (u - h) -ℤ y (u - h))

-- ---- pairs in a list of h + h numbers: those at i and h + i

-- few and small enough that 32 bits hold the size of a pair with its place
pub record Pairs (h : ℕ) (xs : List ℤ) : Type 0 where
  pub some : 0 < h
  pub few : h ≤ 512
  pub size : length xs ≡ h + h
  pub small : (i : ℕ) → i < h + h → nat_abs (at xs i) < 2 ^ 20

-- the sizes of each
abbrev pub pair_sizes : ℕ → List ℤ → ℕ → ℕ
pair_sizes h xs i = pair_size (at xs i) (at xs (h + i))

abbrev pub lesser_sizes : ℕ → List ℤ → ℕ → ℕ
lesser_sizes h xs i = lesser_size (at xs i) (at xs (h + i))

-- their sums, then their differences
abbrev pub pairs_joined : ℕ → List ℤ → ℕ → ℤ
pairs_joined h xs = joined h (at xs) (λ i. at xs (h + i))

-- ---- peaks

-- o is the place below n where the absolute value of c is greatest, where there is one alone
pub record IsPeak (n : ℕ) (c : ℕ → ℤ) (o : Option Peak) : Type 0 where
  pub alone : is_some o ≡ eqb (count_below n (λ u. nat_abs (c u)) (greatest_below n (λ u. nat_abs (c u)))) 1
  pub mask : IfSome o (λ p. p.mask ≡ first_below n (λ u. nat_abs (c u)) (greatest_below n (λ u. nat_abs (c u))))
  pub constant : IfSome o (λ p. p.constant ≡ pos (constant_of (c p.mask)))

-- both below 0, or neither
abbrev pub alike : ℤ → ℤ → Bool
alike x y = eqb (constant_of x) (constant_of y)

-- the peak, alone (Ok) or not (Err)
abbrev pub either : Result Peak Peak → Peak
either (Ok p) = p
either (Err p) = p

-- the peak that the pair x, y gives, by the masks of its sum and its difference
pub record PeakAt (sum difference : ℕ) (x y : ℤ) (r : Result Peak Peak) : Type 0 where
  pub alone : nat_abs x ≢ 0 → nat_abs y ≢ 0 → is_ok r ≡ true
  pub first : nat_abs x ≡ 0 → is_ok r ≡ false
  pub second : nat_abs y ≡ 0 → is_ok r ≡ false
  pub mask : (either r).mask ≡ cond (alike x y) sum difference
  pub constant : (either r).constant ≡ pos (constant_of x)

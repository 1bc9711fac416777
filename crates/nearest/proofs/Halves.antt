-- A word packed by halves: the correlations of its halves, read from those of the packed signs, give its own. Assumes nothing.
use Prim.Native.Nat.{ℕ, suc, ◌+◌, ◌^◌, ◌≤◌, ◌<◌}
use mathlib.Core.Path.{◌≡◌, refl, sym, ap, ap₂, subst, ◌∙◌}
use mathlib.Core.Bool.{false}
use mathlib.Core.List.{List}
use native.Mathlib.Nat.{mul-le-mul_right}
use native.Mathlib.Omega.{arith}
use lib.IntN.{ℤ, pos, nat_abs}
use lib.Pow.{pow_pos, pow_mono}
use Rattle.words.specs.Written.{Written, written_as}
use Rattle.area.specs.Area.{at, Bits, word_of}
use Rattle.hadamard.specs.Correlation.{values, correlation}
use Rattle.peaks.specs.Peaks.{joined}
use Rattle.peaks.specs.Packing.{packed_size, correlation_size, correlation_packed}
use Rattle.halves.specs.Halves.{packed, signs_packed, first_in, second_of, Packed}
use Rattle.halves.specs.PairNumbers.{packed_small, first_packed, second_packed}
use Rattle.peaks.specs.Joined.{joined_whole}
use Rattle.nearest.proofs.Values.{value_at, value_size}
use Rattle.nearest.proofs.Lent.{Layout, Correlated, Packing}

module _ {m k n q : ℕ} {xs : List ℤ} (a : Layout m k n q xs) (em : suc k ≡ m) (most : k ≤ 9) where
  two : n ≡ q + q
  two = omega (arith, ap (λ (r : ℕ). 2 ^ r) em)

  few : q ≤ 512
  few = omega (arith, pow_mono {j = 9} most)

  -- the values of the word and of its upper half
  abbrev word : ℕ → ℤ
  word = values (word_of n xs)

  abbrev upper : ℕ → ℤ
  upper p = word (2 ^ k + p)

  abbrev signs : ℕ → ℤ
  signs p = packed (word p) (upper p)

  signs_at : (p : ℕ) → p < q → signs_packed q xs p ≡ signs p
  signs_at p l =
      ap₂ packed (value_at n xs p p refl (omega arith)) (value_at n xs (q + p) (2 ^ k + p) (omega arith) (omega (arith, two)))

  signs_written : {ys : List ℤ} → Written (pos 0) (q + q) q (signs_packed q xs) xs ys → Written (pos 0) n q signs xs ys
  signs_written {ys} w = subst (λ (r : ℕ). Written (pos 0) r q signs xs ys) (sym two) (written_as w signs signs_at)

  signs_size : (p : ℕ) → nat_abs (signs p) ≤ 2049
  signs_size p = omega (arith, packed_size 2048 (word p) (upper p), value_size n xs p, value_size n xs (2 ^ k + p))

  -- the correlations of the halves
  abbrev low : ℕ → ℤ
  low = correlation k word

  abbrev high : ℕ → ℤ
  high = correlation k upper

  low_size : (u : ℕ) → nat_abs (low u) ≤ 512
  low_size u = omega (arith, correlation_size k word u (λ p l. value_size n xs p), few)

  high_size : (u : ℕ) → nat_abs (high u) ≤ 512
  high_size u = omega (arith, correlation_size k upper u (λ p l. value_size n xs (2 ^ k + p)), few)

  module _ {ps : List ℤ} (c : Correlated k n signs ps) where
    pair_at : (u : ℕ) → u < q → at ps u ≡ packed (low u) (high u)
    pair_at u l = c.each u (omega arith) ∙ correlation_packed 2048 k word upper u

    first_at : (u : ℕ) → u < q → first_in (at ps u) ≡ low u
    first_at u l = ap first_in (pair_at u l) ∙ first_packed (low u) (high u) (low_size u) (high_size u)

    second_at : (u : ℕ) → u < q → second_of (at ps u) ≡ high u
    second_at u l = ap second_of (pair_at u l) ∙ second_packed (low u) (high u) (low_size u) (high_size u)

    pairs : Packed q ps
    pairs = record {
      some = omega (arith, pow_pos k);
      few = few;
      size = c.long ∙ two;
      small = λ u l. rw (pair_at u l) (packed_small (low u) (high u) (low_size u) (high_size u));
      first = λ u l. rw (first_at u l) (low_size u);
      second = λ u l. rw (second_at u l) (high_size u);
    }

    whole_at : (u : ℕ) → u < n → joined q (λ j. first_in (at ps j)) (λ j. second_of (at ps j)) u ≡ correlation m word u
    whole_at u l =
        joined_whole k q word _ _ a.part first_at second_at u (omega (arith, two)) ∙ ap (λ (r : ℕ). correlation r word u) em

  pub halves : Packing false m k n q xs
  halves = record {
    layout = a;
    packable = (few, omega (arith, two), subst (λ (r : ℕ). Bits r xs) two a.bits);
    signs = signs;
    small = λ p. omega (arith, mul-le-mul_right (2 ^ k) (signs_size p), few);
    written = signs_written;
    searchable = pairs;
    covers = sym two;
    whole = whole_at;
  }

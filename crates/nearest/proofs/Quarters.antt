-- A word packed by quarters: the correlations of its quarters, read from those of the packed signs, give its own. Assumes nothing.
use Prim.Native.Nat.{ℕ, suc, ◌+◌, ◌-◌, ◌*◌, ◌%◌, ◌^◌, ◌≤◌, ◌<◌}
use mathlib.Core.Path.{◌≡◌, refl, sym, ap, ap₂, subst, ◌∙◌}
use mathlib.Core.Bool.{true}
use mathlib.Core.List.{List}
use native.Mathlib.Nat.{mul-le-mul_right}
use native.Mathlib.Omega.{arith}
use lib.Bits.{and_mask}
use lib.IntN.{ℤ, pos, nat_abs}
use lib.Pow.{pow_pos, pow_mono}
use Rattle.words.specs.Written.{Written, written_as}
use Rattle.words.specs.Word.{bit}
use Rattle.area.specs.Area.{at, Bits, word_of}
use Rattle.hadamard.specs.Correlation.{values, correlation}
use Rattle.peaks.specs.Peaks.{packed_by, joined}
use Rattle.peaks.specs.Packing.{correlation_size}
use Rattle.quads.specs.Quads.{quad}
use Rattle.quads.specs.QuadLaws.{correlation-quad, signs_size, Numbers, numbers}
use Rattle.quarter_packing.specs.QuarterSigns.{quad_signs}
use Rattle.quarter_sizes.specs.Sized.{Quads}
use Rattle.quarters.specs.Quarters.{firsts, lasts}
use Rattle.peaks.specs.Joined.{joined_whole}
use Rattle.nearest.proofs.Values.{value_at, value_size}
use Rattle.nearest.proofs.Lent.{Layout, Correlated, Packing}

module _ {m k n q : ℕ} {xs : List ℤ} (a : Layout m k n q xs) (em : suc (suc k) ≡ m) (least : 2 ≤ k) (most : k ≤ 5) where
  four : n ≡ 4 * q
  four = omega (arith, ap (λ (r : ℕ). 2 ^ r) em)

  few : q ≤ 32
  few = omega (arith, pow_mono {j = 5} most)

  fours : q % 4 ≡ 0
  fours =
      let e : k ≡ suc (suc (k - 2)) = omega arith in
      omega (arith, ap (λ (r : ℕ). 2 ^ r) e)

  -- the values of the word and of its upper half
  abbrev word : ℕ → ℤ
  word = values (word_of n xs)

  abbrev upper : ℕ → ℤ
  upper p = word (2 ^ suc k + p)

  -- the values of a half's upper quarter
  abbrev after : (ℕ → ℤ) → ℕ → ℤ
  after v p = v (2 ^ k + p)

  abbrev signs : ℕ → ℤ
  signs p = quad (word p) (after word p) (upper p) (after upper p)

  signs_at : (p : ℕ) → p < q → quad_signs q xs p ≡ signs p
  signs_at p l =
      ap₂ (packed_by 65536)
      (ap₂ (packed_by 256) (value_at n xs p p refl (omega arith)) (value_at n xs (q + p) (2 ^ k + p) (omega arith) (omega (arith, four))))
      (ap₂ (packed_by 256)
      (value_at n xs (2 * q + p) (2 ^ suc k + p) (omega arith) (omega (arith, four)))
      (value_at n xs (3 * q + p) (2 ^ suc k + (2 ^ k + p)) (omega arith) (omega (arith, four))))

  signs_written : {ys : List ℤ} → Written (pos 0) (4 * q) q (quad_signs q xs) xs ys → Written (pos 0) n q signs xs ys
  signs_written {ys} w = subst (λ (r : ℕ). Written (pos 0) r q signs xs ys) (sym four) (written_as w signs signs_at)

  unit : (p : ℕ) → nat_abs (word p) ≤ 1
  unit = value_size n xs

  small : (p : ℕ) → nat_abs (signs p) ≤ 16843009
  small p =
      let b : ℕ → ℕ = bit (word_of n xs) in
      signs_size (b p) (b (2 ^ k + p)) (b (2 ^ suc k + p)) (b (2 ^ suc k + (2 ^ k + p)))

  -- the correlations of a quarter are small
  size : (v : ℕ → ℤ) → ((p : ℕ) → nat_abs (v p) ≤ 1) → (u : ℕ) → nat_abs (correlation k v u) ≤ 32
  size v h u = omega (arith, correlation_size k v u (λ p l. h p), few)

  module _ {ps : List ℤ} (c : Correlated k n signs ps) where
    numbers_at :
        (u : ℕ) → u < q
        → Numbers (correlation k word u) (correlation k (after word) u) (correlation k upper u) (correlation k (after upper) u) (at ps u)
    numbers_at u l =
        numbers (c.each u (omega arith) ∙ correlation-quad k word (after word) upper (after upper) u)
        (size word unit u)
        (size (after word) (λ p. unit (2 ^ k + p)) u)
        (size upper (λ p. unit (2 ^ suc k + p)) u)
        (size (after upper) (λ p. unit (2 ^ suc k + (2 ^ k + p))) u)

    quads : Quads q ps
    quads = record {
      some = omega (arith, pow_pos k);
      few = few;
      fours = fours;
      masked = λ j. rw a.part (and_mask j k);
      size = sym (c.long ∙ four);
      each = λ u l. (numbers_at u l).bounded;
    }

    -- the correlations of the halves, then of the word
    firsts_at : (u : ℕ) → u < q + q → firsts q ps u ≡ correlation (suc k) word u
    firsts_at = joined_whole k q word _ _ a.part (λ u l. (numbers_at u l).first) (λ u l. (numbers_at u l).second)

    lasts_at : (u : ℕ) → u < q + q → lasts q ps u ≡ correlation (suc k) upper u
    lasts_at = joined_whole k q upper _ _ a.part (λ u l. (numbers_at u l).third) (λ u l. (numbers_at u l).fourth)

    whole_at : (u : ℕ) → u < n → joined (q + q) (firsts q ps) (lasts q ps) u ≡ correlation m word u
    whole_at u l =
        joined_whole (suc k) (q + q) word _ _ (omega arith) firsts_at lasts_at u (omega (arith, four))
        ∙ ap (λ (r : ℕ). correlation r word u) em

  pub quarters : Packing true m k n q xs
  quarters = record {
    layout = a;
    packable =
        record { few = few; fours = fours; room = omega (arith, four); bits = subst (λ (r : ℕ). Bits r xs) four a.bits };
    signs = signs;
    small = λ p. omega (arith, mul-le-mul_right (2 ^ k) (small p), few);
    written = signs_written;
    searchable = quads;
    covers = omega (arith, four);
    whole = whole_at;
  }

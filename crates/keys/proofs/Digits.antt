-- The numbers of a quad as digits that count from 64 up, and their sums and differences raised by 128. Assumes nothing.
use Prim.Native.Nat.{ℕ, zero, suc, ◌+◌, ◌-◌, ◌*◌, ◌/◌, ◌%◌, ◌^◌, ◌≤◌, ◌<◌}
use mathlib.Core.Path.{◌≡◌, refl, sym, ap, ◌∙◌}
use mathlib.Core.Bool.{Bool, true, false, cond}
use native.Mathlib.Omega.{arith}
use lib.Bits.{bit_and}
use lib.Dec.{ltb, T}
use lib.IntN.{ℤ, pos, negsuc, neg_ℤ, nat_abs, ◌+ℤ◌, ◌-ℤ◌, +ℤ_assoc, +ℤ_comm, neg_ℤ-+ℤ, +ℤ_idr}
use lib.Signed.{non_neg}
use borrow.Author.Tests.{ltb-true, ltb-false, le-ltb}
use mir.Syntax.{w32}
use mir.Val.{Fits, SFits}
use Rattle.area.specs.Numbers.{stored, nat_abs-add}
use Rattle.hadamard.specs.CorrelationLaws.{swap4}
use Rattle.peaks.specs.Stored.{raise_fits, raise_is, raise_casts}
use Rattle.quads.specs.Quads.{raised, number_of, Bounded}
use Rattle.keys.specs.Keys.{bytes, up, pairs}
use Rattle.keys.specs.Bytes.{every_other}

-- ---- one digit

-- d less 64, where that is from -32 to 32
pub record Digit (d : ℕ) : Type 0 where
  pub least : 32 ≤ d
  pub most : d ≤ 96

digit : (d : ℕ) → nat_abs (pos d -ℤ pos 64) ≤ 32 → Digit d
digit d = go (ltb d 64) refl
  where
    go : (t : Bool) → ltb d 64 ≡ t → nat_abs (cond t (negsuc (64 - suc d)) (pos (d - 64))) ≤ 32 → Digit d
    go true e h = let l = ltb-true d 64 e in record { least = omega arith; most = omega arith }
    go false e h = let l = ltb-false d 64 e in record { least = omega arith; most = omega arith }

-- ---- two digits

less : (n b : ℕ) → b ≤ n → nat_abs (pos n -ℤ pos b) ≡ n - b
less n zero h = omega arith
less n (suc b) h = rw (le-ltb n (suc b) h)

module _ (a b : ℕ) where
  sum_up : up ((pos a -ℤ pos 64) +ℤ (pos b -ℤ pos 64)) ≡ a + b
  sum_up =
      ap up (swap4 (pos a) (neg_ℤ (pos 64)) (pos b) (neg_ℤ (pos 64)))
      ∙ ap nat_abs (+ℤ_assoc (pos (a + b)) (negsuc 127) (pos 128) ∙ +ℤ_idr (pos (a + b)))

  difference_up : b ≤ a + 128 → up ((pos a -ℤ pos 64) -ℤ (pos b -ℤ pos 64)) ≡ (a + 128) - b
  difference_up h =
      let n : ℤ = neg_ℤ (pos b) in
      ap (λ (z : ℤ). up ((pos a -ℤ pos 64) +ℤ z)) (neg_ℤ-+ℤ (pos b) (neg_ℤ (pos 64)))
      ∙ ap up (swap4 (pos a) (neg_ℤ (pos 64)) n (pos 64) ∙ +ℤ_idr (pos a +ℤ n))
      ∙ ap nat_abs (+ℤ_assoc (pos a) n (pos 128) ∙ ap (λ (z : ℤ). pos a +ℤ z) (+ℤ_comm n (pos 128)) ∙ sym (+ℤ_assoc (pos a) (pos 128) n))
      ∙ less (a + 128) b h

-- ---- the four digits of a quad

abbrev digit_of : ℕ → ℤ → ℕ
digit_of w z = raised z / w % 256

module _ {z : ℤ} (h : Bounded z) where
  first : Digit (digit_of 1 z)
  unfolding number_of
  first = digit (digit_of 1 z) h.first

  second : Digit (digit_of 256 z)
  unfolding number_of
  second = digit (digit_of 256 z) h.second

  third : Digit (digit_of 65536 z)
  unfolding number_of
  third = digit (digit_of 65536 z) h.third

  fourth : Digit (digit_of 16777216 z)
  unfolding number_of
  fourth = digit (digit_of 16777216 z) h.fourth

  raised-lt : raised z < 2 ^ 32
  raised-lt = omega (arith, h.raisable.small, nat_abs-add z (pos 1077952576))

  pairs_are :
      pairs z
      ≡ bytes (digit_of 1 z + digit_of 256 z) ((digit_of 1 z + 128) - digit_of 256 z) (digit_of 65536 z + digit_of 16777216 z)
      ((digit_of 65536 z + 128) - digit_of 16777216 z)
  unfolding number_of
  pairs_are =
      let a : ℕ = digit_of 1 z in
      let b : ℕ = digit_of 256 z in
      let c : ℕ = digit_of 65536 z in
      let d : ℕ = digit_of 16777216 z in
      rw (
        sum_up a b,
        sum_up c d,
        difference_up a b (omega (arith, first.least, second.most)),
        difference_up c d (omega (arith, third.least, fourth.most)),
      )

-- ---- as the code makes them

-- x holds a and c, y holds b and d
module _ (a b c d x y : ℕ) (ha : Digit a) (hb : Digit b) (hc : Digit c) (hd : Digit d) (p : x ≡ a + 65536 * c) (q : y ≡ b + 65536 * d) where
  ordered : y ≤ x + 8388736
  ordered = omega (arith, hb.most, hd.most)

  made : (x + y) + 256 * ((x + 8388736) - y) ≡ bytes (a + b) ((a + 128) - b) (c + d) ((c + 128) - d)
  made = omega (arith, ha.least, hb.most, hc.least, hd.most)

  room : (x + y) + 256 * ((x + 8388736) - y) < 2 ^ 32
  room = omega (arith, ha.most, hb.least, hb.most, hc.most, hd.least, hd.most)

module _ {z : ℤ} (h : Bounded z) where
  abbrev pub word : ℕ
  word = nat_abs (stored (stored z +ℤ pos 1077952576))

  abbrev x : ℕ
  x = bit_and word 16711935

  abbrev y : ℕ
  y = bit_and (word / 256) 16711935

  pub raised_fits : SFits w32 (stored z +ℤ pos 1077952576)
  raised_fits = raise_fits 1077952576 z (omega arith) (omega arith)

  pub raised_casts : T (non_neg (stored (stored z +ℤ pos 1077952576))) × Fits w32 word
  raised_casts = raise_casts 1077952576 z (omega arith) (omega arith)

  word_is : word ≡ raised z
  word_is = ap nat_abs (raise_is 1077952576 z (omega arith) (omega arith))

  x_is : x ≡ digit_of 1 z + 65536 * digit_of 65536 z
  x_is = rw word_is (every_other (raised z) (raised-lt h) ∙ omega arith)

  y_is : y ≡ digit_of 256 z + 65536 * digit_of 16777216 z
  y_is = rw word_is (every_other (raised z / 256) (omega (arith, raised-lt h)) ∙ omega arith)

  pub pairs_ordered : y ≤ x + 8388736
  pairs_ordered = ordered _ _ _ _ x y (first h) (second h) (third h) (fourth h) x_is y_is

  pub pairs_room : (x + y) + 256 * ((x + 8388736) - y) < 2 ^ 32
  pairs_room = room _ _ _ _ x y (first h) (second h) (third h) (fourth h) x_is y_is

  pub pairs_made : (x + y) + 256 * ((x + 8388736) - y) ≡ pairs z
  pairs_made = made _ _ _ _ x y (first h) (second h) (third h) (fourth h) x_is y_is ∙ sym (pairs_are h)

-- Quads of signs in 32 signed bits, as the code makes them. Assumes nothing.
use Prim.Native.Nat.{ℕ, ◌+◌, ◌*◌, ◌^◌, ◌≤◌, ◌<◌}
use mathlib.Core.Path.{◌≡◌, refl, ◌∙◌}
use mathlib.Core.List.{List}
use native.Mathlib.Nat.{add-zero}
use native.Mathlib.Omega.{arith}
use lib.Dec.{T, ltb, lit<}
use lib.IntN.{ℤ, pos, nat_abs, ◌+ℤ◌, ◌-ℤ◌, ◌*ℤ◌}
use lib.ListN.{length}
use mir.Syntax.{w32, w64}
use mir.Val.{Fits, SFits}
use mir.Facts.{to_z-of_z}
use Rattle.words.specs.Written.{Written}
use Rattle.area.specs.Area.{at, IsBit, zero_bit, one_bit, four_of}
use Rattle.area.proofs.AreaLaws.{bit_lt, four_as}
use Rattle.area.specs.Numbers.{stored, stored-eq, fits_32}
use Rattle.area.specs.Places.{Places, index_fits, places}
use Rattle.hadamard.specs.Correlation.{sign}
use Rattle.quads.specs.Quads.{quad}
use Rattle.quarter_packing.specs.QuarterSigns.{quad_signs, QuarterBits}
use Rattle.quads.specs.QuadLaws.{signs_size}
use Rattle.quads.specs.FourSigns.{code, code-le, double_fits, signs_fit, signs_are}

-- ---- the signs of four bits: 16843009 - 2 * (x + 65536 * y), where x and y are pairs of bits

-- a + 256 * b, as the code makes it
abbrev pair : ℤ → ℤ → ℤ
pair a b = stored a +ℤ stored (pos 256 *ℤ stored b)

pub scaled_fits : {b : ℤ} → IsBit b → SFits w32 (pos 256 *ℤ stored b)
scaled_fits zero_bit = record { sfits = omega arith }
scaled_fits one_bit = record { sfits = omega arith }

pub pair_fits : {a b : ℤ} → IsBit a → IsBit b → SFits w32 (pair a b)
pair_fits zero_bit zero_bit = record { sfits = omega arith }
pair_fits zero_bit one_bit = record { sfits = omega arith }
pair_fits one_bit zero_bit = record { sfits = omega arith }
pair_fits one_bit one_bit = record { sfits = omega arith }

pair_is : {a b : ℤ} → IsBit a → IsBit b → stored (pair a b) ≡ pos (nat_abs a + 256 * nat_abs b)
pair_is zero_bit zero_bit = refl
pair_is zero_bit one_bit = refl
pair_is one_bit zero_bit = refl
pair_is one_bit one_bit = refl

-- x + 65536 * y
abbrev coded : ℤ → ℤ → ℤ → ℤ → ℤ
coded a b c d = stored (pair a b) +ℤ stored (pos 65536 *ℤ stored (pair c d))

module _ {a b c d : ℤ} (ha : IsBit a) (hb : IsBit b) (hc : IsBit c) (hd : IsBit d) where
  abbrev bits : ℕ
  bits = code (nat_abs a) (nat_abs b) (nat_abs c) (nat_abs d)

  few : bits ≤ 16843009
  few = code-le (nat_abs a) (nat_abs b) (nat_abs c) (nat_abs d) (bit_lt ha) (bit_lt hb) (bit_lt hc) (bit_lt hd)

  pub second_fits : SFits w32 (pos 65536 *ℤ stored (pair c d))
  second_fits = rw (pair_is hc hd) (fits_32 _ (omega (arith, few)))

  coded_is : coded a b c d ≡ pos bits
  coded_is = rw (to_z-of_z second_fits, pair_is ha hb, pair_is hc hd)

  pub coded_fits : SFits w32 (coded a b c d)
  coded_fits = rw coded_is (fits_32 _ (omega (arith, few)))

  coded_held : stored (coded a b c d) ≡ pos bits
  coded_held = to_z-of_z coded_fits ∙ coded_is

  pub coded_double : SFits w32 (pos 2 *ℤ stored (coded a b c d))
  coded_double = double_fits coded_held few

  pub coded_rest : SFits w32 (pos 16843009 -ℤ stored (pos 2 *ℤ stored (coded a b c d)))
  coded_rest = signs_fit coded_held few

  pub coded_signs :
      stored (pos 16843009 -ℤ stored (pos 2 *ℤ stored (coded a b c d)))
      ≡ quad (sign (nat_abs a)) (sign (nat_abs b)) (sign (nat_abs c)) (sign (nat_abs d))
  coded_signs =
      signs_are (nat_abs a) (nat_abs b) (nat_abs c) (nat_abs d) coded_held (bit_lt ha) (bit_lt hb) (bit_lt hc) (bit_lt hd)

-- ---- quads of signs in the area

module _ (i : ℕ) {q : ℕ} {xs : List ℤ} (pre : (i + 4 ≤ q) × QuarterBits q xs) where
  -- the places that the code takes
  module _ (small : length xs * 4 < 2 ^ 63) where
    pub packed_many : Fits w64 (4 * q)
    packed_many = index_fits small (omega (arith, pre.1.room))

    pub packed_source : Places i 4 (length xs)
    packed_source = places small tt (omega (arith, pre.0, pre.1.room))

    pub packed_target : Places (4 * q + i) 4 (length xs)
    packed_target = places small tt (omega (arith, pre.0, pre.1.room))

  pub first_quad : (i < q) × QuarterBits q xs
  first_quad = (omega (arith, pre.0), pre.1)

  pub next_quad : (j : ℕ) → T (ltb j 4) → (i + j < q) × QuarterBits q xs
  next_quad j t = (omega (arith, pre.0, lit< {m = j} {n = 4} t), pre.1)

  signs_held : {z : ℤ} (j : ℕ) → z ≡ quad_signs q xs j → stored z ≡ quad_signs q xs j
  signs_held {z} j e =
      let b : ℕ → ℕ = λ p. nat_abs (at xs p) in
      stored-eq z (rw e (omega (arith, signs_size (b j) (b (q + j)) (b (2 * q + j)) (b (3 * q + j))))) ∙ e

  abbrev Quad : ℕ → ℤ → Type 0
  Quad j z = z ≡ quad_signs q xs j

  -- four of them written after the word
  pub four_packed :
      {a : ℕ} {w x y z : ℤ} {ys : List ℤ} → Quad i w → Quad (i + 1) x → Quad (i + 2) y → Quad (i + 3) z
      → Written (pos 0) a 4 (four_of (stored w) (stored x) (stored y) (stored z)) xs ys
      → Written (pos 0) a 4 (λ k. quad_signs q xs (i + k)) xs ys
  four_packed ew ex ey ez k =
      four_as k
      (rw (add-zero i) (signs_held i ew))
      (signs_held (i + 1) ex)
      (signs_held (i + 2) ey)
      (signs_held (i + 3) ez)

-- an area of which only the part after the word was written
module _ {q n : ℕ} {f : ℕ → ℤ} {xs ys : List ℤ} (h : QuarterBits q xs) (w : Written (pos 0) (4 * q) n f xs ys) where
  pub still_bits : QuarterBits q ys
  still_bits = record {
    few = h.few;
    fours = h.fours;
    room = omega arith;
    bits = record { room = omega arith; bits = λ p l. rw (w.below p l) (h.bits.bits p l) };
  }

  pub still_signs : (p : ℕ) → p < q → quad_signs q ys p ≡ quad_signs q xs p
  still_signs p l =
      rw (w.below p (omega arith), w.below (q + p) (omega arith), w.below (2 * q + p) (omega arith), w.below (3 * q + p) (omega arith))

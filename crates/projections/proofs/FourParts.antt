-- Blocks of 4 entries of the area, read in pairs. Assumes nothing.
use Prim.Native.Nat.{ℕ, ◌+◌, ◌-◌, ◌%◌, ◌≤◌, ◌<◌}
use mathlib.Core.Path.{◌≡◌, ◌∙◌}
use mathlib.Core.List.{List}
use native.Mathlib.Omega.{arith}
use lib.Bits.{bit_xor}
use lib.ListN.{length, take, drop}
use lib.IntN.{ℤ, pos, nat_abs}
use Rattle.words.specs.Written.{Written}
use Rattle.words.specs.Parts.{part_length, at-part_of}
use Rattle.area.specs.Area.{at, IsBit, four_of}
use Rattle.area.proofs.AreaLaws.{is_bit, bit_back, four_as}
use Rattle.area.specs.Numbers.{stored}
use Rattle.projections.specs.Fours.{bit_sum, BitPair, TwoBlocks, pair_sum}
use Rattle.projections.specs.FourLaws.{four_lt}

-- ---- the four entries from place p on, as the code takes them

abbrev pub four : ℕ → List ℤ → List ℤ
four p xs = take (p + 4 - p) (drop p xs)

module _ (p : ℕ) (xs : List ℤ) (room : p + 4 ≤ length xs) where
  pub four-length : length (four p xs) ≡ 4
  four-length = part_length (pos 0) p (p + 4 - p) xs (omega arith) ∙ omega arith

  pub four-at : (i : ℕ) → i < 4 → at (four p xs) i ≡ at xs (p + i)
  four-at i l = at-part_of (pos 0) p (p + 4 - p) xs (omega arith) i (omega arith)

module _ {c p z l : ℕ} {xs : List ℤ} (t : TwoBlocks c p z l xs) (i : ℕ) (hi : i < 4) where
  turned_lt : bit_xor i l < 4
  turned_lt = four_lt hi t.low

  pub four_pair : BitPair i l (four p xs) (four z xs)
  four_pair = record {
    first = omega (arith, four-length p xs t.place);
    second = omega (arith, four-length z xs t.partner, turned_lt);
    one = rw (four-at p xs t.place i hi) (t.one i hi);
    two = rw (four-at z xs t.partner (bit_xor i l) turned_lt) (t.two (bit_xor i l) turned_lt);
  }

  pub four_sum : bit_sum (at (four p xs) i) (at (four z xs) (bit_xor i l)) ≡ pair_sum p z l xs i
  four_sum = rw (four-at p xs t.place i hi, four-at z xs t.partner (bit_xor i l) turned_lt)

pub sum_bit : (x y : ℤ) → IsBit (bit_sum x y)
sum_bit x y = is_bit ((nat_abs x + nat_abs y) % 2) (omega arith)

-- the four sums written from place c on
module _ {c p z l : ℕ} {xs : List ℤ} (t : TwoBlocks c p z l xs) where
  abbrev Sum : ℕ → ℤ → Type 0
  Sum i x = x ≡ bit_sum (at (four p xs) i) (at (four z xs) (bit_xor i l))

  written : (i : ℕ) → i < 4 → {x : ℤ} → Sum i x → stored x ≡ pair_sum p z l xs i
  written i hi {x} e = let s : x ≡ pair_sum p z l xs i = e ∙ four_sum t i hi in rw s (bit_back (sum_bit (at xs (p + i)) (at xs (z + bit_xor i l))))

  pub four_written : {a b d e : ℤ} {ys : List ℤ} → Sum 0 a → Sum 1 b → Sum 2 d → Sum 3 e
      → Written (pos 0) c 4 (four_of (stored a) (stored b) (stored d) (stored e)) xs ys → Written (pos 0) c 4 (pair_sum p z l xs) xs ys
  four_written ea eb ed ee w =
      four_as w
      (written 0 (omega arith) ea)
      (written 1 (omega arith) eb)
      (written 2 (omega arith) ed)
      (written 3 (omega arith) ee)

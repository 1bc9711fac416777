-- Laws of the first order test as the code makes it: some places at a time, and the first levels as one. Assumes nothing.
use Rattle.std.specs.Prelude.{ℕ, zero, suc, ◌+◌, ◌*◌, ◌%◌, ◌^◌, ◌≤◌, ◌≡◌, refl, Bool, ◌&&◌, eqb}
use Rattle.std.proofs.Common.{sym, ap₂, ◌∙◌, add-zero, add_assoc}
use Rattle.std.proofs.Math.Path.{ap}
use native.Mathlib.Omega.{arith}
use borrow.Author.Tests.{eq-eqb}
use Rattle.std.specs.Int.Bits.{bit_xor}
use Rattle.words.specs.Sum.{total}
use Rattle.words.specs.SumLaws.{all_append, all_ext}
use Rattle.words.specs.Xor.{xor_bits}
use Rattle.code.specs.FirstOrder.{repeats_below, repeats, levels_test}
use Rattle.code.proofs.FirstOrderLaws.{repeats_one, levels_three}
use Rattle.octets.specs.Octets.{packed, AreBits}
use Rattle.octets.specs.PackedBits.{parities_bits, packed_constant, packed_equal, packed-xor}

module _ {f : ℕ → ℕ} (b : AreBits f) where
  bits_from : (i : ℕ) → AreBits (λ j. f (i + j))
  bits_from i = record { each = λ j. b.each (i + j) }

  pub xor_is : (p q : ℕ) → bit_xor (f p) (f q) ≡ (f p + f q) % 2
  xor_is p q = xor_bits (f p) (f q) (b.each p) (b.each q)

  -- four bits, as the code sums them
  pub four_are : (i : ℕ) → f i + 256 * f (i + 1) + 65536 * (f (i + 2) + 256 * f (i + 3)) ≡ packed 4 (λ j. f (i + j))
  unfolding packed total
  four_are i = omega (arith, ap f (add-zero i))

  pub four_le : (i : ℕ) → f i + 256 * f (i + 1) + 65536 * (f (i + 2) + 256 * f (i + 3)) ≤ 16843009
  four_le i = omega (arith, b.each i, b.each (i + 1), b.each (i + 2), b.each (i + 3))

  -- and eight
  pub eight_are : (i : ℕ) → packed 4 (λ j. f (i + j)) + 4294967296 * packed 4 (λ j. f (i + 4 + j)) ≡ packed 8 (λ j. f (i + j))
  unfolding packed total
  eight_are i =
      omega (
        arith,
        ap f {x = i + 4 + 0} {y = i + 4} (omega arith),
        ap f {x = i + 4 + 1} {y = i + 5} (omega arith),
        ap f {x = i + 4 + 2} {y = i + 6} (omega arith),
        ap f {x = i + 4 + 3} {y = i + 7} (omega arith),
      )

  -- n places more: x and y are the bits at i and at h + i
  pub places_more :
      (n h i x y : ℕ) (t : Bool) → x ≡ packed n (λ j. f (i + j)) → y ≡ packed n (λ j. f (h + i + j)) → t ≡ repeats_below f h i
      → t && eqb (bit_xor x y) (bit_xor (f 0) (f h) * packed n (λ j. 1)) ≡ repeats_below f h (i + n)
  places_more n h i x y t ex ey et =
      ap₂ ◌&&◌ et
      (ap₂ eqb
      (ap₂ bit_xor ex ey ∙ packed-xor n _ _ (bits_from i) (bits_from (h + i)))
      (ap (λ (z : ℕ). z * packed n (λ j. 1)) (xor_is 0 h) ∙ packed_constant n ((f 0 + f h) % 2))
      ∙ packed_equal n _ _ (parities_bits (λ j. f (i + j) + f (h + i + j))) (parities_bits (λ j. f 0 + f h))
      ∙ all_ext n _ _ (λ j l. ap (λ (z : ℕ). eqb ((f (i + j) + f z) % 2) ((f 0 + f h) % 2)) (add_assoc h i j)))
      ∙ sym (all_append i n _)

  -- the second level, where two places are left to test
  second_level : eqb (bit_xor (f 1) (f 3)) (bit_xor (f 0) (f 2)) ≡ repeats f 2
  unfolding repeats total
  second_level = rw (xor_is 1 3, xor_is 0 2, eq-eqb ((f 0 + f 2) % 2) ((f 0 + f 2) % 2) refl)

  -- the levels of the first eight places
  pub first_three : (t : Bool) → t ≡ repeats f 4 → eqb (bit_xor (f 1) (f 3)) (bit_xor (f 0) (f 2)) && t ≡ levels_test 3 f
  first_three t e = ap₂ ◌&&◌ (ap₂ ◌&&◌ (sym (repeats_one f)) second_level) e ∙ levels_three f

-- a level from the fourth on goes by eights
pub eights : (k : ℕ) → 3 ≤ k → 2 ^ k % 8 ≡ 0
eights zero l = absurd (omega arith)
eights (suc zero) l = absurd (omega arith)
eights (suc (suc zero)) l = absurd (omega arith)
eights (suc (suc (suc k))) l = omega arith

-- Laws of eight bits in the bytes of a number: one bit added, and the first eight bits of a codeword. Assumes nothing.
use Rattle.std.specs.Prelude.{ℕ, ◌+◌, ◌*◌, ◌/◌, ◌%◌, ◌^◌, ◌≤◌, ◌<◌, min, ◌≡◌, List}
use Rattle.std.proofs.Common.{sym, ap, ap₂, ◌∙◌, arith}
use Rattle.std.proofs.Math.Nat.{mod-add-mod, add-mod-mod}
use Rattle.std.specs.Int.Bits.{bit_and, bit_xor, and_zero_r}
use Rattle.std.specs.Int.Count.{ones}
use Rattle.words.specs.Sum.{total}
use Rattle.words.specs.TopBit.{ones-zero}
use Rattle.words.specs.Ones.{affine_bit, ones-and, ones_block}
use Rattle.words.specs.Written.{Written, written_run}
use Rattle.octets.specs.Octets.{packed, octet, AreBits}
use Rattle.octets.specs.PackedBits.{parities_bits, packed_ext, packed_constant, packed_digit, packed-xor}

-- ---- one bit in every byte, or where the place has a digit

octet_is : (f : ℕ → ℕ) → octet f ≡ f 0 + 256 * (f 1 + 256 * (f 2 + 256 * (f 3 + 256 * (f 4 + 256 * (f 5 + 256 * (f 6 + 256 * f 7))))))
unfolding packed total
octet_is f = omega arith

everywhere : (t : ℕ) → t * 72340172838076673 ≡ octet (λ i. t)
unfolding packed total
everywhere = packed_constant 8

module _ (t : ℕ) (h : t < 2) where
  at_ones : t * 72058693566333184 ≡ octet (λ i. min t (i % 2))
  at_ones = omega (arith, octet_is (λ i. min t (i % 2)))

  at_twos : t * 72339069031481344 ≡ octet (λ i. min t (i / 2 % 2))
  at_twos = omega (arith, octet_is (λ i. min t (i / 2 % 2)))

  at_fours : t * 72340172821233664 ≡ octet (λ i. min t (i / 4 % 2))
  at_fours = omega (arith, octet_is (λ i. min t (i / 4 % 2)))

-- the bit t added to each of eight bits
pub bit_added : (t : ℕ) → t < 2 → (f : ℕ → ℕ) → AreBits f → bit_xor (octet f) (t * 72340172838076673) ≡ octet (λ i. (f i + t) % 2)
bit_added t h f b = rw (everywhere t) (packed-xor 8 f (λ i. t) b record { each = λ i. h })

-- ---- the first eight bits of a codeword

-- the ones in u AND i, by the three digits of i
three_digits : (u i : ℕ) → i < 8 → ones (bit_and u i) ≡ min (u % 2) (i % 2) + (min (u / 2 % 2) (i / 2 % 2) + min (u / 4 % 2) (i / 4 % 2))
three_digits u i l =
    let four : (x : ℕ) → x / 2 / 2 ≡ x / 4 = λ x. omega arith in
    let none : i / 2 / 2 / 2 ≡ 0 = omega arith in
    let last : ones (bit_and (u / 2 / 2 / 2) (i / 2 / 2 / 2)) ≡ 0 = rw (none, and_zero_r) ones-zero in
    let digit : min (u / 2 / 2 % 2) (i / 2 / 2 % 2) ≡ min (u / 4 % 2) (i / 4 % 2) = ap₂ (λ (x y : ℕ). min (x % 2) (y % 2)) (four u) (four i) in
    omega (arith, ones-and u i, ones-and (u / 2) (i / 2), ones-and (u / 2 / 2) (i / 2 / 2), last, digit)

parities : (s a b c : ℕ) → ((s + a) % 2 + (b + c) % 2) % 2 ≡ (s + (a + (b + c))) % 2
parities s a b c = omega arith

by_digits :
    (u s : ℕ) → s < 2
    → bit_xor
    (bit_xor (s * 72340172838076673) (u % 2 * 72058693566333184))
    (bit_xor (u / 2 % 2 * 72339069031481344) (u / 4 % 2 * 72340172821233664))
    ≡ octet (affine_bit u s)
by_digits u s h =
    let bit : (x : ℕ) → x % 2 < 2 = λ x. omega arith in
    let low : (t : ℕ) (f : ℕ → ℕ) → t < 2 → AreBits (λ i. min t (f i)) = λ t f l. record { each = λ i. omega arith } in
    rw (everywhere s, at_ones (u % 2) (bit u), at_twos (u / 2 % 2) (bit (u / 2)), at_fours (u / 4 % 2) (bit (u / 4)))
    (ap₂ bit_xor
    (packed-xor 8 (λ i. s) (λ i. min (u % 2) (i % 2)) record { each = λ i. h } (low (u % 2) (λ i. i % 2) (bit u)))
    (packed-xor 8 _ _ (low (u / 2 % 2) (λ i. i / 2 % 2) (bit (u / 2))) (low (u / 4 % 2) (λ i. i / 4 % 2) (bit (u / 4))))
    ∙ packed-xor 8 _ _ (parities_bits (λ i. s + min (u % 2) (i % 2))) (parities_bits (λ i. min (u / 2 % 2) (i / 2 % 2) + min (u / 4 % 2) (i / 4 % 2)))
    ∙ packed_ext 8 _ _ (λ i l. parities s (min (u % 2) (i % 2)) (min (u / 2 % 2) (i / 2 % 2)) (min (u / 4 % 2) (i / 4 % 2))
    ∙ ap (λ (x : ℕ). (s + x) % 2) (sym (three_digits u i l))))

-- a sum of digits of which one is taken
one_taken :
    (a b c : ℕ) → ((min (a % 2) 1 + (min b 0 + min c 0)) % 2 ≡ a % 2) × ((min b 0 + (min (a % 2) 1 + min c 0)) % 2 ≡ a % 2) × ((min b 0 + (min c 0 + min (a % 2) 1)) % 2 ≡ a % 2)
one_taken a b c = (omega arith, omega arith, omega arith)

-- the parities of u AND 1, 2 and 4
pub first_bits :
    (u s : ℕ) → s < 2
    → bit_xor
    (bit_xor (s * 72340172838076673) (ones (bit_and u 1) % 2 * 72058693566333184))
    (bit_xor (ones (bit_and u 2) % 2 * 72339069031481344) (ones (bit_and u 4) % 2 * 72340172821233664))
    ≡ octet (affine_bit u s)
first_bits u s h =
    let one : ones (bit_and u 1) % 2 ≡ u % 2 = ap (λ (x : ℕ). x % 2) (three_digits u 1 (omega arith)) ∙ (one_taken u (u / 2 % 2) (u / 4 % 2)).0 in
    let two : ones (bit_and u 2) % 2 ≡ u / 2 % 2 = ap (λ (x : ℕ). x % 2) (three_digits u 2 (omega arith)) ∙ (one_taken (u / 2) (u % 2) (u / 4 % 2)).1 in
    let four : ones (bit_and u 4) % 2 ≡ u / 4 % 2 = ap (λ (x : ℕ). x % 2) (three_digits u 4 (omega arith)) ∙ (one_taken (u / 4) (u % 2) (u / 2 % 2)).2 in
    rw (one, two, four) (by_digits u s h)

-- ---- the codeword by eights

-- x holds its eight bits from place q on
pub record AffineEight (u s q x : ℕ) : Type 0 where
  pub is : x ≡ octet (λ i. affine_bit u s (q + i))

pub affine_first : {u s x : ℕ} → x ≡ octet (affine_bit u s) → AffineEight u s 0 x
affine_first {u} {s} e = record { is = e ∙ packed_ext 8 _ _ (λ i l. ap (affine_bit u s) {x = i} {y = 0 + i} (omega arith)) }

affine_bits : (u s q : ℕ) → AreBits (λ i. affine_bit u s (q + i))
affine_bits u s q = parities_bits (λ i. s + ones (bit_and u (q + i)))

affine_added :
    (h u s b i : ℕ) → b % 2 ^ h ≡ 0 → i < 2 ^ h → (affine_bit u s i + ones (bit_and u b) % 2) % 2 ≡ affine_bit u s (b + i)
affine_added h u s b i e l = rw (ones_block h u b i e l) (simp (mod-add-mod, add-mod-mod) (omega arith))

module _ {u s : ℕ} where
  -- place q is place k of the block of 2 ^ h at b
  pub affine_eight :
      (h b k q : ℕ) {t x v : ℕ} → b % 2 ^ h ≡ 0 → k + 8 ≤ 2 ^ h → q ≡ b + k → t ≡ ones (bit_and u b) % 2 → AffineEight u s k x
      → ((f : ℕ → ℕ) → AreBits f → x ≡ octet f → v ≡ octet (λ i. (f i + t) % 2)) → AffineEight u s q v
  affine_eight h b k q e l eq et ex added = record {
    is = added (λ i. affine_bit u s (k + i)) (affine_bits u s k) ex.is
        ∙ packed_ext 8 _ _ (λ i li.
        rw et (affine_added h u s b (k + i) e (omega arith)) ∙ ap (affine_bit u s) {x = b + (k + i)} {y = q + i} (omega arith));
  }

  -- eight bytes more
  pub eight_more :
      {q v : ℕ} {xs ys zs : List ℕ} → AffineEight u s q v → Written 0 0 q (affine_bit u s) xs ys
      → Written 0 q 8 (λ i. v / 256 ^ i % 256) ys zs → Written 0 0 (q + 8) (affine_bit u s) xs zs
  eight_more {q} e w z =
      written_run w z (omega arith)
      (λ i l. ap (λ (x : ℕ). x / 256 ^ i % 256) e.is ∙ packed_digit 8 i (λ j. affine_bit u s (q + j)) (affine_bits u s q) l)

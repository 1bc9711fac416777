-- Laws of bits in the bytes of a number: its digits, equality, exclusive or, and one bit in every byte. Assumes nothing.
use Rattle.std.specs.Prelude.{ℕ, zero, suc, ◌+◌, ◌*◌, ◌/◌, ◌%◌, ◌^◌, ◌<◌, ◌≡◌, refl, eqb}
use Rattle.std.proofs.Common.{sym, ap, ap₂, ◌∙◌, add_comm, le_of_suc-le-suc, one-mul, mul-suc, mul-add, mul_assoc, mul-le-mul_right, pow-suc, arith, eqb-true, eq-eqb, pow-add}
use Rattle.std.proofs.Math.Nat.{pow-succ', div-div-eq-div-mul}
use Rattle.std.specs.Int.Bits.{bit_xor}
use Rattle.std.proofs.lemmas.Nat.{xor_block}
use Rattle.words.specs.Sum.{all_below, total}
use Rattle.words.specs.SumLaws.{sum_ext, all_true, true_all, same_test}
use Rattle.words.specs.Xor.{xor_bits}
use Rattle.octets.specs.Octets.{packed, AreBits}

-- parities are bits
pub parities_bits : (f : ℕ → ℕ) → AreBits (λ i. f i % 2)
parities_bits f = record { each = λ i. omega arith }

-- the same bits
pub packed_ext : (n : ℕ) (f g : ℕ → ℕ) → ((i : ℕ) → i < n → f i ≡ g i) → packed n f ≡ packed n g
unfolding packed
packed_ext n f g h = sum_ext n _ _ (λ i l. ap (λ (x : ℕ). x * 256 ^ i) (h i l))

-- the bit t in every byte
pub packed_constant : (n t : ℕ) → t * packed n (λ i. 1) ≡ packed n (λ i. t)
unfolding packed total
packed_constant zero t = omega arith
packed_constant (suc n) t = rw (mul-add, packed_constant n t, one-mul)

-- ---- digits

packed_first : (n : ℕ) (f : ℕ → ℕ) → packed (suc n) f ≡ f 0 + 256 * packed n (λ i. f (suc i))
unfolding packed total
packed_first zero f = omega arith
packed_first (suc n) f =
    let e : f (suc n) * 256 ^ suc n ≡ f (suc n) * 256 ^ n * 256 = rw pow-suc (sym (mul_assoc (f (suc n)) (256 ^ n) 256)) in
    omega (arith, packed_first n f, e)

-- the first byte and the rest
first_byte : (x a r : ℕ) → x ≡ a + 256 * r → a < 2 → (x % 256 ≡ a) × (x / 256 ≡ r)
first_byte x a r e l = (omega arith, omega arith)

pub packed_digit : (n i : ℕ) (f : ℕ → ℕ) → AreBits f → i < n → packed n f / 256 ^ i % 256 ≡ f i
packed_digit zero i f b l = absurd (omega arith)
packed_digit (suc n) zero f b l = omega (arith, (first_byte _ _ _ (packed_first n f) (b.each 0)).0)
packed_digit (suc n) (suc i) f b l =
    ap (λ (y : ℕ). packed (suc n) f / y % 256) (pow-succ' 256 i)
    ∙ ap (λ (y : ℕ). y % 256) (sym (div-div-eq-div-mul (packed (suc n) f) 256 (256 ^ i)))
    ∙ ap (λ (y : ℕ). y / 256 ^ i % 256) (first_byte _ _ _ (packed_first n f) (b.each 0)).1
    ∙ packed_digit n i (λ j. f (suc j)) record { each = λ j. b.each (suc j) } (omega arith)

-- two such numbers are equal exactly where each bit is
pub packed_equal : (n : ℕ) (f g : ℕ → ℕ) → AreBits f → AreBits g → eqb (packed n f) (packed n g) ≡ all_below n (λ i. eqb (f i) (g i))
packed_equal n f g bf bg =
    same_test _ _
    (λ e. true_all n _ (λ i l. eq-eqb (f i) (g i)
    (sym (packed_digit n i f bf l) ∙ ap (λ (x : ℕ). x / 256 ^ i % 256) (eqb-true _ _ e) ∙ packed_digit n i g bg l)))
    (λ e. eq-eqb (packed n f) (packed n g) (packed_ext n f g (λ i l. eqb-true (f i) (g i) (all_true n (λ j. eqb (f j) (g j)) e i l))))

-- ---- exclusive or

bytes : (n : ℕ) → 256 ^ n ≡ 2 ^ (8 * n)
bytes zero = refl
bytes (suc n) = rw (mul-suc, pow-suc, bytes n) (sym (pow-add 2 (8 * n) 8))

packed-lt : (n : ℕ) (f : ℕ → ℕ) → AreBits f → packed n f < 256 ^ n
unfolding packed total
packed-lt zero f b = omega arith
packed-lt (suc n) f b =
    omega (arith, packed-lt n f b, mul-le-mul_right (256 ^ n) (le_of_suc-le-suc (b.each n)), pow-suc 256 n, one-mul (256 ^ n))

packed_low : (n : ℕ) (f : ℕ → ℕ) → AreBits f → packed n f < 2 ^ (8 * n)
packed_low n f b = rw (← bytes n) (packed-lt n f b)

pub packed-xor : (n : ℕ) (f g : ℕ → ℕ) → AreBits f → AreBits g → bit_xor (packed n f) (packed n g) ≡ packed n (λ i. (f i + g i) % 2)
unfolding packed total
packed-xor zero f g bf bg = refl
packed-xor (suc n) f g bf bg =
    ap₂ bit_xor (add_comm (packed n f) (f n * 256 ^ n)) (add_comm (packed n g) (g n * 256 ^ n))
    ∙ rw (bytes n) (xor_block (8 * n) (f n) (g n) (packed n f) (packed n g) (packed_low n f bf) (packed_low n g bg))
    ∙ ap₂ ◌+◌ (ap (λ (x : ℕ). x * 256 ^ n) (xor_bits (f n) (g n) (bf.each n) (bg.each n))) (packed-xor n f g bf bg)
    ∙ add_comm ((f n + g n) % 2 * 256 ^ n) (packed n (λ i. (f i + g i) % 2))

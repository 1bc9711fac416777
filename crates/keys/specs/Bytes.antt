-- Four bytes side by side: bitwise operations go byte by byte, and how far each is from 128. Assumes nothing.
use Rattle.std.specs.Prelude.{ℕ, ◌+◌, ◌-◌, ◌*◌, ◌/◌, ◌%◌, ◌^◌, ◌≤◌, ◌<◌, ◌≡◌}
use Rattle.std.proofs.Common.{ap, ap₂, ◌∙◌, arith}
use Rattle.std.proofs.Math.Decide.{dec_lt}
use Rattle.std.specs.Int.Bits.{bit_and, bit_xor, xor_add_and, and_zero_r}
use Rattle.std.proofs.lemmas.Nat.{and_block, xor_block, and_mask}
use Rattle.std.proofs.lemmas.Nat.Bits.{and_high}
use Rattle.keys.specs.Keys.{bytes, off, offs}

-- ---- the bytes of a number

joined : (f a b c p q r s : ℕ) → f ≡ p + 256 * a → a ≡ q + 256 * b → b ≡ r + 256 * c → c ≡ s → f ≡ bytes p q r s
joined f a b c p q r s e k l m = omega arith

pub bytes_of : (f : ℕ) → f < 2 ^ 32 → f ≡ bytes (f % 256) (f / 256 % 256) (f / 65536 % 256) (f / 16777216 % 256)
bytes_of f h = joined f (f / 256) (f / 65536) (f / 16777216) _ _ _ _ (omega arith) (omega arith) (omega arith) (omega arith)

module _ (p q r s : ℕ) (hp : p < 256) (hq : q < 256) (hr : r < 256) (hs : s < 256) where
  pub first_byte : bytes p q r s % 256 ≡ p
  first_byte = omega arith

  pub second_byte : bytes p q r s / 256 % 256 ≡ q
  second_byte = omega arith

  pub third_byte : bytes p q r s / 65536 % 256 ≡ r
  third_byte = omega arith

  pub fourth_byte : bytes p q r s / 16777216 % 256 ≡ s
  fourth_byte = omega arith

-- ---- an operation that goes by digits to base 256

module _ (op : ℕ → ℕ → ℕ) (block : (a b r s : ℕ) → r < 256 → s < 256 → op (a * 256 + r) (b * 256 + s) ≡ op a b * 256 + op r s) where
  digits : (p q r s : ℕ) → bytes p q r s ≡ ((s * 256 + r) * 256 + q) * 256 + p
  digits p q r s = omega arith

  by_bytes :
      (p q r s k l m n : ℕ) → p < 256 → q < 256 → r < 256 → k < 256 → l < 256 → m < 256
      → op (bytes p q r s) (bytes k l m n) ≡ bytes (op p k) (op q l) (op r m) (op s n)
  by_bytes p q r s k l m n hp hq hr hk hl hm =
      let third : op (s * 256 + r) (n * 256 + m) ≡ op s n * 256 + op r m = block s n r m hr hm in
      let second = block (s * 256 + r) (n * 256 + m) q l hq hl in
      let first = block ((s * 256 + r) * 256 + q) ((n * 256 + m) * 256 + l) p k hp hk in
      ap₂ op (digits p q r s) (digits k l m n) ∙ omega (arith, first, second, third)

pub and-bytes :
    (p q r s k l m n : ℕ) → p < 256 → q < 256 → r < 256 → k < 256 → l < 256 → m < 256
    → bit_and (bytes p q r s) (bytes k l m n) ≡ bytes (bit_and p k) (bit_and q l) (bit_and r m) (bit_and s n)
and-bytes = by_bytes bit_and (and_block 8)

pub xor-bytes :
    (p q r s k l m n : ℕ) → p < 256 → q < 256 → r < 256 → k < 256 → l < 256 → m < 256
    → bit_xor (bytes p q r s) (bytes k l m n) ≡ bytes (bit_xor p k) (bit_xor q l) (bit_xor r m) (bit_xor s n)
xor-bytes = by_bytes bit_xor (xor_block 8)

-- ---- how far a byte is from 128

-- 1 for a byte below 128, else 0
abbrev under : ℕ → ℕ
under x = 1 - x / 128

top_bit : (x : ℕ) → x < 256 → bit_and x 128 + 128 * under x ≡ 128
top_bit x h = omega (arith, and_high x 1 7)

turned : (x : ℕ) → x < 256 → bit_xor x (128 - under x) + under x ≡ off x
turned x h = elim (dec_lt x 128) [
  | yes l ↦
      let e : under x ≡ 1 = omega arith in
      rw e (omega (arith, xor_add_and x 127, and_mask x 7))
  | no l ↦
      let e : under x ≡ 0 = omega arith in
      rw e (omega (arith, xor_add_and x 128, top_bit x h))
]

under_most : (x : ℕ) → under x ≤ 1
under_most x = omega arith

off_most : (x : ℕ) → x < 256 → off x ≤ 128
off_most x h = omega arith

-- sums and differences that go byte by byte
lowered :
    (k l m n : ℕ) → k ≤ 1 → l ≤ 1 → m ≤ 1 → n ≤ 1
    → 2155905152 - bytes k l m n ≡ bytes (128 - k) (128 - l) (128 - m) (128 - n)
lowered k l m n hk hl hm hn = omega arith

module _ (a b c d k l m n : ℕ) where
  filled :
      a + 128 * k ≡ 128 → b + 128 * l ≡ 128 → c + 128 * m ≡ 128 → d + 128 * n ≡ 128
      → bytes a b c d + 128 * bytes k l m n ≡ 2155905152
  filled ha hb hc hd = omega arith

  summed :
      (p q r s : ℕ) → a + k ≡ p → b + l ≡ q → c + m ≡ r → d + n ≡ s → bytes a b c d + bytes k l m n ≡ bytes p q r s
  summed p q r s hp hq hr hs = omega arith

divided : (x u : ℕ) → x + 128 * u ≡ 2155905152 → (2155905152 - x) / 128 ≡ u
divided x u h = omega arith

bytes_most : (k l m n : ℕ) → k ≤ 128 → l ≤ 128 → m ≤ 128 → n ≤ 128 → bytes k l m n ≤ 2155905152
bytes_most k l m n hk hl hm hn = omega arith

abbrev unders : ℕ → ℕ → ℕ → ℕ → ℕ
unders p q r s = bytes (under p) (under q) (under r) (under s)

-- the seven low bits of each byte turned over, and one more, where it is below 128
module _ (p q r s : ℕ) (hp : p < 256) (hq : q < 256) (hr : r < 256) (hs : s < 256) where
  top_bits : bit_and (bytes p q r s) 2155905152 + 128 * unders p q r s ≡ 2155905152
  top_bits =
      ap (λ (x : ℕ). x + 128 * unders p q r s)
      (and-bytes p q r s 128 128 128 128 hp hq hr (omega arith) (omega arith) (omega arith))
      ∙ filled _ _ _ _ (under p) (under q) (under r) (under s) (top_bit p hp) (top_bit q hq) (top_bit r hr) (top_bit s hs)

  all_turned : bit_xor (bytes p q r s) (2155905152 - unders p q r s) + unders p q r s ≡ bytes (off p) (off q) (off r) (off s)
  all_turned =
      let k : ℕ = under p in
      let l : ℕ = under q in
      let m : ℕ = under r in
      let n : ℕ = under s in
      ap (λ (x : ℕ). bit_xor (bytes p q r s) x + unders p q r s)
      (lowered k l m n (under_most p) (under_most q) (under_most r) (under_most s))
      ∙ ap (λ (x : ℕ). x + unders p q r s)
      (xor-bytes p q r s (128 - k) (128 - l) (128 - m) (128 - n) hp hq hr (omega arith) (omega arith) (omega arith))
      ∙ summed _ _ _ _ k l m n _ _ _ _ (turned p hp) (turned q hq) (turned r hr) (turned s hs)

-- ---- a number, as the code takes it

byte_kept : (x : ℕ) → x < 256 → bit_and x 255 ≡ x
byte_kept x h = omega (arith, and_mask x 8)

module _ (f : ℕ) (h : f < 2 ^ 32) where
  abbrev p : ℕ
  p = f % 256

  abbrev q : ℕ
  q = f / 256 % 256

  abbrev r : ℕ
  r = f / 65536 % 256

  abbrev s : ℕ
  s = f / 16777216 % 256

  -- every other byte
  pub every_other : bit_and f 16711935 ≡ p + 65536 * r
  every_other =
      ap (λ (x : ℕ). bit_and x 16711935) (bytes_of f h)
      ∙ and-bytes p q r s 255 0 255 0 (omega arith) (omega arith) (omega arith) (omega arith) (omega arith) (omega arith)
      ∙ omega (arith, byte_kept p (omega arith), byte_kept r (omega arith), and_zero_r q, and_zero_r s)

  -- where each byte is below 128
  abbrev below : ℕ
  below = (2155905152 - bit_and f 2155905152) / 128

  below_is : below ≡ unders p q r s
  below_is =
      divided (bit_and f 2155905152) (unders p q r s)
      (ap (λ (x : ℕ). bit_and x 2155905152 + 128 * unders p q r s) (bytes_of f h)
      ∙ top_bits p q r s (omega arith) (omega arith) (omega arith) (omega arith))

  pub offs_are : bit_xor f (2155905152 - below) + below ≡ offs f
  offs_are =
      ap (λ (x : ℕ). bit_xor f (2155905152 - x) + x) below_is
      ∙ ap (λ (x : ℕ). bit_xor x (2155905152 - unders p q r s) + unders p q r s) (bytes_of f h)
      ∙ all_turned p q r s (omega arith) (omega arith) (omega arith) (omega arith)

  pub offs_room : bit_xor f (2155905152 - below) + below ≤ 2155905152
  offs_room =
      rw offs_are
      (bytes_most (off p) (off q) (off r) (off s)
      (off_most p (omega arith)) (off_most q (omega arith)) (off_most r (omega arith)) (off_most s (omega arith)))

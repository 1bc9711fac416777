-- Laws of the area: bits, the word in its front, and four numbers in a row. Assumes nothing.
use Rattle.std.specs.Prelude.{ℕ, zero, suc, ◌+◌, ◌%◌, ◌^◌, ◌≤◌, ◌<◌, ◌≡◌, refl, List, length, take, ℤ, pos, nat_abs}
use Rattle.std.proofs.Common.{arith, sym, ap, subst, ◌∙◌, get_or-take, ext_get_or, length-take-le, to_z, of_z}
use Rattle.std.proofs.lemmas.List.{length-map}
use Rattle.std.proofs.Math.ListN.{get_or-map}
use Rattle.std.specs.Int.Bits.{bit_xor}
use Rattle.std.specs.Int.{w32}
use Rattle.words.specs.Word.{IsWord, bit}
use Rattle.words.proofs.WordLaws.{word_of_bits}
use Rattle.words.specs.Written.{Written, written_as}
use Rattle.area.specs.Area.{at, IsBit, zero_bit, one_bit, Bits, Front, word_of, four_of}

-- ---- bits

pub bit_is : {z : ℤ} → IsBit z → z ≡ pos (nat_abs z)
bit_is zero_bit = refl
bit_is one_bit = refl

pub bit_lt : {z : ℤ} → IsBit z → nat_abs z < 2
bit_lt zero_bit = omega arith
bit_lt one_bit = omega arith

pub is_bit : (x : ℕ) → x < 2 → IsBit (pos x)
is_bit zero h = zero_bit
is_bit (suc zero) h = one_bit
is_bit (suc (suc x)) h = absurd (omega arith)

-- what the code reads of a stored bit is the bit
pub bit_back : {z : ℤ} → IsBit z → to_z w32 (of_z w32 z) ≡ z
bit_back zero_bit = refl
bit_back one_bit = refl

-- a stored bit
pub bit_stored : {z : ℤ} → IsBit z → of_z w32 z ≡ nat_abs z
bit_stored zero_bit = refl
bit_stored one_bit = refl

-- exclusive or of two bits is their sum modulo 2, as it is stored
pub xor_stored : {x y : ℤ} → IsBit x → IsBit y → bit_xor (of_z w32 x) (of_z w32 y) ≡ of_z w32 (pos ((nat_abs x + nat_abs y) % 2))
xor_stored zero_bit zero_bit = refl
xor_stored zero_bit one_bit = refl
xor_stored one_bit zero_bit = refl
xor_stored one_bit one_bit = refl

-- and as it is read back
pub bits_xor : {x y : ℤ} → IsBit x → IsBit y → to_z w32 (bit_xor (of_z w32 x) (of_z w32 y)) ≡ pos ((nat_abs x + nat_abs y) % 2)
bits_xor {x} {y} bx by = ap (to_z w32) (xor_stored bx by) ∙ bit_back (is_bit ((nat_abs x + nat_abs y) % 2) (omega arith))

-- ---- the word in the front

pub length-word_of : (n : ℕ) (xs : List ℤ) → n ≤ length xs → length (word_of n xs) ≡ n
unfolding word_of
length-word_of n xs h = length-map (take n xs) nat_abs ∙ length-take-le n xs h

pub bit-word_of : (n : ℕ) (xs : List ℤ) (p : ℕ) → p < n → bit (word_of n xs) p ≡ nat_abs (at xs p)
unfolding word_of
bit-word_of n xs p h = get_or-map nat_abs (take n xs) p (pos 0) ∙ ap nat_abs (get_or-take n xs p (pos 0) h)

-- a word that the area holds place by place
pub word_of_is : (n : ℕ) (xs : List ℤ) (w : List ℕ) → n ≤ length xs → length w ≡ n → ((p : ℕ) → p < n → at xs p ≡ pos (bit w p)) → word_of n xs ≡ w
word_of_is n xs w room e h =
    ext_get_or 0 (word_of n xs) w (length-word_of n xs room ∙ sym e)
    (λ i l. let l' : i < n = subst (λ (k : ℕ). i < k) (length-word_of n xs room) l in bit-word_of n xs i l' ∙ ap nat_abs (h i l'))

-- the front decides the word
pub word_of_same : (n : ℕ) (xs ys : List ℤ) → n ≤ length xs → n ≤ length ys → ((p : ℕ) → p < n → at ys p ≡ at xs p) → word_of n ys ≡ word_of n xs
word_of_same n xs ys a b h =
    ext_get_or 0 (word_of n ys) (word_of n xs) (length-word_of n ys b ∙ sym (length-word_of n xs a))
    (λ i l. let l' : i < n = subst (λ (k : ℕ). i < k) (length-word_of n ys b) l in bit-word_of n ys i l' ∙ ap nat_abs (h i l') ∙ sym (bit-word_of n xs i l'))

-- the front of bits is a word
pub word_of_word : {m : ℕ} {xs : List ℤ} → Bits (2 ^ m) xs → IsWord m (word_of (2 ^ m) xs)
word_of_word {m} {xs} b =
    word_of_bits m (word_of (2 ^ m) xs) (length-word_of (2 ^ m) xs b.room) (λ p l. omega (arith, bit-word_of (2 ^ m) xs p l, bit_lt (b.bits p l)))

-- the number at a place, from the bits of the front
pub bits_at : {n : ℕ} {xs : List ℤ} → Bits n xs → (p : ℕ) → p < n → at xs p ≡ pos (bit (word_of n xs) p)
bits_at {n} {xs} b p l = bit_is (b.bits p l) ∙ ap pos (sym (bit-word_of n xs p l))

pub bits_fewer : {n k : ℕ} {xs : List ℤ} → k ≤ n → Bits n xs → Bits k xs
bits_fewer l b = record { room = omega (arith, b.room); bits = λ p h. b.bits p (omega arith) }

pub front_bits : {n : ℕ} {w : List ℕ} {xs : List ℤ} → n ≤ length xs → Front n w xs → Bits n xs
front_bits room f = record { room = room; bits = λ p l. subst IsBit (sym (f.each p l)) (is_bit _ (f.bits p l)) }

pub front_word : {n : ℕ} {w : List ℕ} {xs : List ℤ} → n ≤ length xs → Front n w xs → word_of n xs ≡ w
front_word {n} {w} {xs} room f = word_of_is n xs w room f.size f.each

-- bits are a word's
pub front_of : {n : ℕ} {xs : List ℤ} → Bits n xs → Front n (word_of n xs) xs
front_of {n} {xs} b = record {
  size = length-word_of n xs b.room;
  each = bits_at b;
  bits = λ p l. subst (λ (x : ℕ). x < 2) (sym (bit-word_of n xs p l)) (bit_lt (b.bits p l));
}

-- the word stays
pub front_kept : {n : ℕ} {w : List ℕ} {xs ys : List ℤ} → Front n w xs → ((p : ℕ) → p < n → at ys p ≡ at xs p) → Front n w ys
front_kept f h = record { size = f.size; each = λ p l. h p l ∙ f.each p l; bits = f.bits }

-- ---- four numbers in a row

pub by_four : (P : ℕ → Type 0) → P 0 → P 1 → P 2 → P 3 → (i : ℕ) → i < 4 → P i
by_four P a b c d zero l = a
by_four P a b c d (suc zero) l = b
by_four P a b c d (suc (suc zero)) l = c
by_four P a b c d (suc (suc (suc zero))) l = d
by_four P a b c d (suc (suc (suc (suc i)))) l = absurd (omega arith)

-- written from b on, they are what f gives
pub four_as :
    {b : ℕ} {w x y z : ℤ} {f : ℕ → ℤ} {xs ys : List ℤ} → Written (pos 0) b 4 (four_of w x y z) xs ys
    → w ≡ f 0 → x ≡ f 1 → y ≡ f 2 → z ≡ f 3 → Written (pos 0) b 4 f xs ys
four_as {w = w} {x = x} {y = y} {z = z} {f = f} k ew ex ey ez = written_as k f (by_four (λ (p : ℕ). four_of w x y z p ≡ f p) ew ex ey ez)

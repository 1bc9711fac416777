-- The signs of a first order codeword by doubling. Assumes nothing.
use Rattle.std.specs.Prelude.{ℕ, zero, suc, ◌+◌, ◌*◌, ◌/◌, ◌%◌, ◌^◌, ◌≤◌, ◌<◌, ◌≡◌, refl, List, ℤ, pos, neg_ℤ, nat_abs, length, take, drop}
use Rattle.std.proofs.Common.{sym, ap, ap₂, ◌∙◌, add-zero, one-mul, mod-lt, div-add-mod', arith, pow_mono, pow_pos, to_z, of_z}
use Rattle.std.proofs.Math.Decide.{dec_lt}
use Rattle.std.proofs.Math.Nat.{mod_self}
use Rattle.std.specs.Int.Bits.{bit_and, bit_xor, and_zero_r}
use Rattle.std.proofs.lemmas.Nat.{and_block, and_le_r, ones_cat}
use Rattle.std.specs.Int.Count.{ones}
use Rattle.std.specs.Int.{w32}
use borrow.Rule.Slice.PartMut.{put_mid}
use Rattle.words.specs.Ones.{affine_bit, ones_block}
use Rattle.words.specs.Parts.{back_length, back_part, written_part}
use Rattle.words.specs.Sum.{tabulate}
use Rattle.words.specs.SumLaws.{get_or-tabulate, length-tabulate}
use Rattle.words.specs.TopBit.{ones_top, ones-zero}
use Rattle.words.specs.Written.{Written, written_none, written_run, written_to, written_as, written_all}
use Rattle.area.specs.Area.{at, Bits}
use Rattle.area.proofs.AreaLaws.{is_bit}
use Rattle.area.specs.Numbers.{stored}
use Rattle.affine.specs.Affine.{affine_at}
use Rattle.value_orders.specs.Doubling.{IsSign, plus, minus, Doubles, PowerOfTwo, turned}
use Rattle.value_orders.specs.SignLaws.{sign_of}

-- ---- a sign, stored and turned

pub sign_back : {z : ℤ} → IsSign z → stored z ≡ z
sign_back plus = refl
sign_back minus = refl

pub sign_turned : {y z t : ℤ} → IsSign z → IsSign t → y ≡ z → to_z w32 (bit_xor (of_z w32 y) (of_z w32 t)) ≡ turned (stored t) z
sign_turned sz st e = rw e (go sz st)
  where
    go : {z t : ℤ} → IsSign z → IsSign t → to_z w32 (bit_xor (of_z w32 z) (of_z w32 t)) ≡ turned (stored t) z
    go plus plus = refl
    go plus minus = refl
    go minus plus = refl
    go minus minus = refl

-- the sign of a parity
parity_sign : (x : ℕ) {z : ℤ} → z ≡ neg_ℤ (pos (x % 2)) → IsSign z
parity_sign x e = rw e (go (x % 2) (omega arith))
  where
    go : (b : ℕ) → b < 2 → IsSign (neg_ℤ (pos b))
    go zero l = plus
    go (suc zero) l = minus
    go (suc (suc b)) l = absurd (omega arith)

-- ---- the parity of a mask's one place

module _ (k u : ℕ) where
  single : bit_and u (2 ^ k) ≡ bit_and (u / 2 ^ k) 1 * 2 ^ k + 0
  single =
      ap₂ bit_and (sym (div-add-mod' u (2 ^ k))) (sym (ap (λ (x : ℕ). x + 0) (one-mul (2 ^ k)) ∙ add-zero (2 ^ k)))
      ∙ and_block k (u / 2 ^ k) 1 (u % 2 ^ k) 0 (mod-lt u (pow_pos k)) (pow_pos k)
      ∙ ap (λ (x : ℕ). bit_and (u / 2 ^ k) 1 * 2 ^ k + x) (and_zero_r (u % 2 ^ k))

  ones_single : (bit_and u (2 ^ k) ≡ 0 → ⊥) → ones (bit_and u (2 ^ k)) ≡ 1
  ones_single some =
      ap ones single ∙ ones_cat k (bit_and (u / 2 ^ k) 1) 0 (pow_pos k)
      ∙ go (bit_and (u / 2 ^ k) 1) (and_le_r (u / 2 ^ k) 1) (λ e. some (single ∙ ap (λ (x : ℕ). x * 2 ^ k + 0) e ∙ omega arith))
    where
      go : (x : ℕ) → x ≤ 1 → (x ≡ 0 → ⊥) → ones x + ones 0 ≡ 1
      go zero l n = absurd (n refl)
      go (suc zero) l n = omega (arith, ones_top 0 0 (pow_pos 0), ones-zero)
      go (suc (suc x)) l n = absurd (omega arith)

  pub turn_some : {h : ℕ} → h ≡ 2 ^ k → (bit_and u h ≡ 0 → ⊥) → neg_ℤ (pos 1) ≡ neg_ℤ (pos (ones (bit_and u h) % 2))
  turn_some e some = rw e (rw (ones_single (λ z. some (rw e z))) refl)

pub turn_none : (u h : ℕ) → bit_and u h ≡ 0 → pos 0 ≡ neg_ℤ (pos (ones (bit_and u h) % 2))
turn_none u h e = rw (e, ones-zero) refl

-- ---- a codeword by its bits, turned to signs

-- the number at place p of the codeword of mask u and constant s by its signs
abbrev pub affine_sign : ℕ → ℤ → ℕ → ℤ
affine_sign u s p = neg_ℤ (affine_at u s p)

module _ (u : ℕ) (s : ℤ) (k : ℕ) {ys : List ℤ} (e : ys ≡ tabulate k (affine_at u s)) where
  long : length ys ≡ k
  long = ap length e ∙ length-tabulate k (affine_at u s)

  each : (p : ℕ) → p < k → at ys p ≡ affine_at u s p
  each p l = rw e (get_or-tabulate k (affine_at u s) (pos 0) p l)

  pub affine_bits : Bits (length ys) ys
  affine_bits = record { room = omega arith; bits = λ p l. rw (each p (omega (arith, long))) (is_bit (affine_bit u (nat_abs s) p) (omega arith)) }

  pub affine_signs : {zs : List ℤ} → Written (pos 0) 0 (length ys) (λ p. neg_ℤ (at ys p)) ys zs → zs ≡ tabulate k (affine_sign u s)
  affine_signs w = written_all (written_as (written_to w k long) (affine_sign u s) (λ p l. ap neg_ℤ (each p l))) long

-- ---- each half from the one below it

-- the first h of n signs of the codeword are written in a
pub record Doubled (u : ℕ) (s : ℤ) (n h : ℕ) (a : List ℤ) : Type 0 where
  pub from : List ℤ
  pub size : length from ≡ n
  pub exponent : ℕ
  pub half : h ≡ 2 ^ exponent
  pub within : h ≤ n
  pub written : Written (pos 0) 0 h (affine_sign u s) from a

-- the first 16 places, written by their bits ys, then by their signs zs
module _ (u : ℕ) (s : ℤ) (a : List ℤ) (room : 16 ≤ length a) {ys : List ℤ} (ey : ys ≡ tabulate 16 (affine_at u s)) where
  abbrev by_bits : List ℤ
  by_bits = put_mid 0 16 a ys

  pub size_bits : length by_bits ≡ length a
  size_bits = back_length (pos 0) 0 16 a (omega arith) ys (long u s 16 ey)

  pub front_bits : take 16 (drop 0 by_bits) ≡ tabulate 16 (affine_at u s)
  front_bits = back_part (pos 0) 0 16 a (omega arith) ys (long u s 16 ey) ∙ ey

  pub doubled_front : {zs : List ℤ} → zs ≡ tabulate 16 (affine_sign u s) → Doubled u s (length a) 16 (put_mid 0 16 by_bits zs)
  doubled_front {zs} ez = record {
    from = by_bits;
    size = size_bits;
    exponent = 4;
    half = refl;
    within = room;
    written =
        written_part (written_none _ _ _ _) 0 16 zs refl (omega (arith, size_bits)) (ap length ez ∙ length-tabulate 16 (affine_sign u s))
        (λ q l. ap (λ (x : List ℤ). at x q) ez ∙ get_or-tabulate 16 (affine_sign u s) (pos 0) q l ∙ ap (affine_sign u s) (omega arith));
  }

module _ {u n h : ℕ} {s : ℤ} {a : List ℤ} (d : Doubled u s n h a) where
  pub doubled_all : n ≤ h → a ≡ tabulate n (affine_sign u s)
  doubled_all l = written_all (written_to d.written n (omega (arith, d.within))) d.size

  pub doubled_long : length a ≡ n
  doubled_long = d.written.long ∙ d.size

  pub more_room : PowerOfTwo n → h < n → h + h ≤ n
  more_room p l = elim (dec_lt d.exponent p.exponent) [
    | yes b ↦ omega (arith, d.half, p.power, pow_mono {i = suc d.exponent} b)
    | no b ↦ absurd (omega (arith, d.half, p.power, pow_mono {i = p.exponent} {j = d.exponent} (omega arith)))
  ]

  -- a half more, turned by t
  module _ (room : h + h ≤ n) {t : ℤ} (et : t ≡ neg_ℤ (pos (ones (bit_and u h) % 2))) where
    here : (i : ℕ) → i < h → at a i ≡ affine_sign u s i
    here i b = ap (at a) (omega arith) ∙ d.written.within i b

    pub doubles : Doubles h t a
    doubles = record {
      room = omega (arith, doubled_long);
      turn = parity_sign (ones (bit_and u h)) et;
      signs = λ i b. parity_sign (nat_abs s + ones (bit_and u i)) (here i b);
    }

    next : (i : ℕ) → i < h → turned t (at a i) ≡ affine_sign u s (h + i)
    next i b =
        rw (
          here i b,
          et,
          sign_of (affine_bit u (nat_abs s) i) (omega arith),
          sign_of (ones (bit_and u h) % 2) (omega arith),
          ones_block d.exponent u h i (ap (λ (x : ℕ). x % 2 ^ d.exponent) d.half ∙ mod_self (2 ^ d.exponent)) (omega (arith, d.half)),
        )
        (ap (λ (x : ℕ). neg_ℤ (pos x)) (added (nat_abs s) (ones (bit_and u h)) (ones (bit_and u i))))
      where
        added : (x y z : ℕ) → ((x + z) % 2 + y % 2) % 2 ≡ (x + (y + z)) % 2
        added x y z = omega arith

    pub doubled_more : {z : List ℤ} → Written (pos 0) h h (λ i. turned t (at a i)) a z → Doubled u s n (h + h) z
    doubled_more v = record {
      from = d.from;
      size = d.size;
      exponent = suc d.exponent;
      half = omega (arith, d.half);
      within = room;
      written = written_run d.written v (omega arith) next;
    }

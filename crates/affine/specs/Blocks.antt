-- The first order codeword by blocks: a block is the first one with a bit added. Assumes nothing.
use Rattle.std.specs.Prelude.{ℕ, ◌+◌, ◌-◌, ◌%◌, ◌^◌, ◌≤◌, ◌<◌, ◌≡◌, refl, List, length, ℤ, pos, nat_abs}
use Rattle.std.proofs.Common.{zero-add, arith, sym, ap, subst, ◌∙◌, to_z, of_z}
use Rattle.std.proofs.Math.Nat.{mod-add-mod, add-mod-mod}
use Rattle.std.proofs.Math.Decide.{dec_lt}
use Rattle.std.specs.Int.Bits.{bit_and, bit_xor}
use Rattle.std.specs.Int.Count.{ones}
use Rattle.std.specs.Int.{w32}
use borrow.Rule.Slice.PartMut.{put_mid}
use Rattle.words.specs.Sum.{tabulate}
use Rattle.words.specs.SumLaws.{length-tabulate, get_or-tabulate, tabulate_ext, tabulate-get_or}
use Rattle.words.specs.Ones.{ones_block}
use Rattle.words.specs.Written.{Written, written_run}
use Rattle.area.specs.Area.{at, IsBit}
use Rattle.area.proofs.AreaLaws.{is_bit, bit_back, bits_xor}
use Rattle.area.specs.Numbers.{stored}
use Rattle.affine.specs.Affine.{affine_at, repeated, Repeats}
use Rattle.words.specs.Parts.{back_length, back_within}

-- ---- what the code writes

-- s ^ t, with s as a loop holds it
xor_is : {s t : ℤ} → IsBit s → IsBit t → to_z w32 (bit_xor (of_z w32 s) (of_z w32 t)) ≡ pos ((nat_abs (stored s) + nat_abs t) % 2)
xor_is {t = t} bs bt = bits_xor bs bt ∙ ap (λ (z : ℤ). pos ((nat_abs z + nat_abs t) % 2)) (sym (bit_back bs))

module _ (k : ℕ) {t : ℤ} (e : t ≡ pos (k % 2)) where
  pub parity_bit : IsBit t
  parity_bit = subst IsBit (sym e) (is_bit (k % 2) (omega arith))

  -- at one place
  pub place_is : {s : ℤ} → IsBit s → to_z w32 (bit_xor (of_z w32 s) (of_z w32 t)) ≡ pos ((nat_abs (stored s) + k) % 2)
  place_is b = xor_is b parity_bit ∙ ap pos (omega (arith, ap nat_abs e))

-- ---- bits repeated with a bit added

-- the places in two halves, one after the other
module _ (h : ℕ) {i b : ℕ} {t : ℤ} {a : List ℤ} (asks : Repeats (h + h) i b t a) where
  pub first_half : Repeats h i b t a
  first_half = record { added = asks.added; after = omega arith; room = omega arith; bits = λ j l. asks.bits j (omega arith) }

  module _ {z : List ℤ} (w : Written (pos 0) b h (repeated t i a) a z) where
    -- the places still to be read are as they were
    kept : (j : ℕ) → j < h → at z (i + h + j) ≡ at a (i + (h + j))
    kept j l = w.below (i + h + j) (omega arith) ∙ ap (at a) (omega arith)

    pub second_half : Repeats h (i + h) (b + h) t z
    second_half = record {
      added = asks.added;
      after = omega arith;
      room = omega (arith, w.long);
      bits = λ j l. rw (kept j l) (asks.bits (h + j) (omega arith));
    }

    pub both_halves : {y : List ℤ} → Written (pos 0) (b + h) h (repeated t (i + h) z) z y → Written (pos 0) b (h + h) (repeated t i a) a y
    both_halves v = written_run w v refl (λ j l. rw (kept j l))

-- a has n numbers, and the first b of them are the codeword's
pub record Affine (u : ℕ) (s : ℤ) (n b : ℕ) (a : List ℤ) : Type 0 where
  pub long : length a ≡ n
  pub each : (p : ℕ) → p < b → at a p ≡ affine_at u s p

-- the first k places, lent and written
pub affine_front :
    {u k : ℕ} {s : ℤ} {z : List ℤ} (a : List ℤ) → k ≤ length a → z ≡ tabulate k (affine_at u s) → Affine u s (length a) k (put_mid 0 k a z)
affine_front {u} {k} {s} {z} a room ez =
    let size : length z ≡ k = ap length ez ∙ length-tabulate k (affine_at u s) in
    record {
      long = back_length (pos 0) 0 k a (omega arith) z size;
      each = λ p l.
          ap (at (put_mid 0 k a z)) {x = p} {y = 0 + p} (omega arith)
          ∙ back_within (pos 0) 0 k a (omega arith) z size p l
          ∙ ap (λ (x : List ℤ). at x p) ez
          ∙ get_or-tabulate k (affine_at u s) (pos 0) p l;
    }

module _ {u : ℕ} {s : ℤ} {n b : ℕ} {a : List ℤ} (w : Affine u s n b a) where
  pub affine_all : b ≡ n → a ≡ tabulate n (affine_at u s)
  affine_all e = sym (tabulate-get_or n a (pos 0) w.long) ∙ tabulate_ext n _ _ (λ p l. w.each p (omega arith))

  -- a block more, of which t is the parity
  module _ {t : ℤ} (et : t ≡ pos (ones (bit_and u b) % 2)) where
    -- as the calls are given it
    given : stored t ≡ pos (ones (bit_and u b) % 2)
    given = bit_back (parity_bit _ et) ∙ et

    pub repeats : {k : ℕ} → k ≤ b → b + k ≤ n → Repeats k 0 b (stored t) a
    repeats l room = record {
      added = parity_bit _ given;
      after = omega arith;
      room = omega (arith, w.long);
      bits = λ j lj. parity_bit (nat_abs s + ones (bit_and u (0 + j))) (w.each (0 + j) (omega arith));
    }

    pub affine_more :
        (h : ℕ) {z : List ℤ} → b % 2 ^ h ≡ 0 → 2 ^ h ≤ b → Written (pos 0) b (2 ^ h) (repeated (stored t) 0 a) a z → Affine u s n (b + 2 ^ h) z
    affine_more h {z} e l v = record {
      long = v.long ∙ w.long;
      each = λ p lp. elim (dec_lt p b) [
        | yes q ↦ v.below p q ∙ w.each p q
        | no q ↦
            let j : b + (p - b) ≡ p = omega arith in
            subst (λ (q : ℕ). at z q ≡ affine_at u s q) j (v.within (p - b) (omega arith) ∙ next (p - b) (omega arith))
      ];
    }
      where
        next : (j : ℕ) → j < 2 ^ h → repeated (stored t) 0 a j ≡ affine_at u s (b + j)
        next j lj =
            rw (zero-add, w.each j (omega arith), given, ones_block h u b j e lj) (ap pos (simp (mod-add-mod, add-mod-mod) (omega arith)))

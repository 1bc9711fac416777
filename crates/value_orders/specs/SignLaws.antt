-- Words by the signs of numbers. Assumes nothing.
use Rattle.std.specs.Prelude.{ℕ, ◌+◌, ◌%◌, ◌^◌, ◌<◌, ◌≡◌, refl, Bool, true, false, List, eqb, ℤ, pos, neg_ℤ, nat_abs, ◌-ℤ◌, Some, None}
use Rattle.std.proofs.Common.{sym, ap, ◌∙◌, mod-lt, arith, SFits, of_z}
use Rattle.std.specs.Int.Bits.{bit_and}
use Rattle.std.specs.Int.Count.{ones}
use Rattle.std.specs.Int.Signed.{lt_z, mag}
use Rattle.std.specs.Int.{w32}
use Rattle.words.specs.Sum.{tabulate}
use Rattle.words.specs.SumLaws.{get_or-tabulate}
use Rattle.area.specs.Area.{at, IsBit, zero_bit, one_bit}
use Rattle.area.proofs.AreaLaws.{bit_back, bit_lt, is_bit}
use Rattle.area.specs.Numbers.{negated_fits, stored}
use Rattle.hadamard.specs.Correlation.{constant_of, correlation}
use Rattle.hadamard.specs.AffineWords.{bit-affine, word_affine}
use Rattle.hadamard.specs.CorrelationLaws.{constant_of_negative, constant_of_other}
use Rattle.peaks.specs.declared.Peak.{Peak}
use Rattle.peaks.specs.Peaks.{IsPeak}
use Rattle.peaks.specs.Stored.{as_it_is, zero_read}
use Rattle.rule.specs.Reading.{order1}
use Rattle.order_one.specs.OrderOne.{peak_tie, peak_nearest, peak_bit}
use Rattle.value_orders.specs.Leaves.{Leaf, LeafAs, LeafBits}

-- ---- a bit, and the number with its sign

pub turned_fits : {y z : ℤ} → IsBit z → y ≡ z → SFits w32 (pos 0 -ℤ stored y)
turned_fits {y} {z} b e = negated_fits y (omega (arith, ap nat_abs e, bit_lt b))

pub turned_is : {y z : ℤ} → IsBit z → y ≡ z → stored (pos 0 -ℤ stored y) ≡ neg_ℤ z
turned_is b e = rw e (go b)
  where
    go : {z : ℤ} → IsBit z → stored (pos 0 -ℤ stored z) ≡ neg_ℤ z
    go zero_bit = refl
    go one_bit = refl

pub sign_bit : {z : ℤ} → IsBit z → constant_of (neg_ℤ z) ≡ nat_abs z
sign_bit zero_bit = refl
sign_bit one_bit = refl

pub sign_of : (b : ℕ) → b < 2 → constant_of (neg_ℤ (pos b)) ≡ b
sign_of b h = sign_bit (is_bit b h)

-- ---- a number that the code reads, against 0

module _ (z : ℤ) (fits : mag z < 2 ^ 31) where
  pub sign_taken : lt_z (stored z) (pos 0) ≡ true → constant_of z ≡ 1
  sign_taken e = constant_of_negative z (rw (as_it_is fits) at e)

  pub sign_left : lt_z (stored z) (pos 0) ≡ false → constant_of z ≡ 0
  sign_left e = constant_of_other z (rw (as_it_is fits) at e)

  pub zero_test : eqb (of_z w32 z) 0 ≡ eqb (nat_abs z) 0
  zero_test = zero_read {x = z} (record { sfits = fits })

-- ---- order 1 from the peak of the values v

module _ (m : ℕ) (v : ℕ → ℤ) where
  pub leaf_tie : (bits : Bool) (ys : List ℤ) → IsPeak (2 ^ m) (correlation m v) None → LeafAs bits (2 ^ m) (order1 m v) ys false
  leaf_tie true ys k = rw (peak_tie m v k) (record { said = refl; word = tt })
  leaf_tie false ys k = rw (peak_tie m v k) (record { said = refl; word = tt })

  module _ {p : Peak} (k : IsPeak (2 ^ m) (correlation m v) (Some p)) where
    constant_is : nat_abs (stored p.constant) ≡ constant_of (correlation m v p.mask)
    constant_is = ap nat_abs (bit_back (peak_bit m v k) ∙ k.constant)

    -- its codeword was written as ys, a number f of each bit
    module _ {n : ℕ} {ys : List ℤ} (f : ℕ → ℤ) (size : n ≡ 2 ^ m)
        (ey : ys ≡ tabulate n (λ q. f ((nat_abs (stored p.constant) + ones (bit_and p.mask q)) % 2))) where
      each : (q : ℕ) → q < 2 ^ m → at ys q ≡ f ((constant_of (correlation m v p.mask) + ones (bit_and p.mask q)) % 2)
      each q l = rw (ey, ← constant_is) (get_or-tabulate n _ (pos 0) q (omega arith))

    module _ {n : ℕ} {ys : List ℤ} (size : n ≡ 2 ^ m) where
      pub bits_word : ys ≡ tabulate n (λ q. pos ((nat_abs (stored p.constant) + ones (bit_and p.mask q)) % 2)) → LeafBits (2 ^ m) (order1 m v) ys true
      bits_word ey =
          let w = word_affine m p.mask (constant_of (correlation m v p.mask)) in
          rw (peak_nearest m v k)
          (record {
            said = refl;
            word = record { size = w.size; each = λ q l. each pos size ey q l ∙ ap pos (sym (bit-affine m p.mask _ q l)); bits = λ q l. w.bits q };
          })

      pub leaf_word : ys ≡ tabulate n (λ q. neg_ℤ (pos ((nat_abs (stored p.constant) + ones (bit_and p.mask q)) % 2))) → Leaf (2 ^ m) (order1 m v) ys true
      leaf_word ey =
          rw (peak_nearest m v k)
          (record {
            said = refl;
            word = record {
              each = λ q l.
                  ap (λ (i : ℕ). constant_of (at ys i)) {x = 0 + q} {y = q} (omega arith) ∙ ap constant_of (each (λ b. neg_ℤ (pos b)) size ey q l)
                  ∙ sign_of _ (mod-lt _ (omega arith)) ∙ sym (bit-affine m p.mask _ q l);
            };
          })

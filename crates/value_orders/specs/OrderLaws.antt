-- Orders 0 and 1 of values in the front of the area. Assumes nothing.
use Rattle.std.specs.Prelude.{ℕ, zero, suc, ◌+◌, ◌*◌, ◌^◌, ◌≤◌, ◌<◌, ◌≡◌, refl, true, false, List, ◌≢◌, ℤ, pos, negsuc, nat_abs, length, replicate, take}
use Rattle.std.proofs.Math.Path.{sym, ap, ap₂}
use Rattle.std.proofs.Common.{◌∙◌, ⊎_elim, add-one, arith, lit<, pow_pos, length-take-le, SFits, to_z, of_z, to_z-of_z}
use Rattle.std.proofs.lemmas.Bool.{false≢true}
use Rattle.std.proofs.Math.IntN.{◌+ℤ◌}
use Rattle.std.proofs.Math.Seq.{get_or-take}
use Rattle.std.specs.Int.Signed.{lt_z, mag}
use Rattle.std.specs.Int.{w32}
use borrow.Rule.Slice.PartMut.{put_mid}
use Rattle.words.specs.Sum.{sum_below_ℤ, total}
use Rattle.words.specs.SumLaws.{sum_ℤ_ext}
use Rattle.words.specs.Parts.{back_within}
use Rattle.words.specs.Written.{Written}
use Rattle.area.specs.Area.{at}
use Rattle.area.specs.Numbers.{fits_32, nat_abs-add, stored, stored-eq}
use Rattle.hadamard.specs.AffineWords.{word_affine}
use Rattle.hadamard.specs.Correlation.{affine, constant_of}
use Rattle.hadamard.specs.CorrelationLaws.{constant_of_negative, constant_of_other}
use Rattle.hadamard.specs.Peak.{peak}
use Rattle.peaks.specs.Stored.{as_it_is, word_zero, zero_word}
use Rattle.rule.specs.Reading.{Outcome, accepted, by_sum, constant, order0, order1, refused}
use Rattle.rule.proofs.Order1.{order1_alone, order1_shared, sizes}
use Rattle.told.specs.Told.{Read, as_accepted, as_refused}
use Rattle.told.specs.ToldLaws.{constant_read}
use Rattle.told.specs.declared.Noise.TheVariants.{Tie}
use Rattle.confidences.specs.Values.{Values, front_of}
use Rattle.value_orders.specs.Leaves.{Leaf, LeafBits}

-- ---- the sum of the values, as the code makes it

-- after i of n values the code holds s
pub record Summed (n : ℕ) (xs : List ℤ) (i s : ℕ) : Type 0 where
  pub within : i ≤ n
  pub sum : to_z w32 s ≡ sum_below_ℤ i (at xs)
  pub small : nat_abs (sum_below_ℤ i (at xs)) ≤ i * 2047

pub summed_none : (n : ℕ) (xs : List ℤ) → Summed n xs 0 0
unfolding total
summed_none n xs = record { within = omega arith; sum = refl; small = omega arith }

module _ {n : ℕ} {xs : List ℤ} {i s : ℕ} (few : n ≤ 1024) (v : Values n xs) (d : Summed n xs i s) (l : i < n) where
  abbrev next : ℤ
  next = to_z w32 s +ℤ stored (at xs i)

  next_is : next ≡ sum_below_ℤ (suc i) (at xs)
  unfolding total
  next_is = ap₂ ◌+ℤ◌ d.sum (stored-eq (at xs i) (omega (arith, v.small i l)))

  next_small : nat_abs (sum_below_ℤ (suc i) (at xs)) ≤ suc i * 2047
  unfolding total
  next_small = omega (arith, nat_abs-add (sum_below_ℤ i (at xs)) (at xs i), d.small, v.small i l)

  pub summed_fits : SFits w32 next
  summed_fits = fits_32 next (omega (arith, ap nat_abs next_is, next_small))

  pub summed_more : Summed n xs (i + 1) (of_z w32 next)
  summed_more = rw (add-one i) (record { within = l; sum = to_z-of_z summed_fits ∙ next_is; small = next_small })

pub summed_all : {n : ℕ} {xs : List ℤ} {i s : ℕ} → Summed n xs i s → n ≤ i → to_z w32 s ≡ sum_below_ℤ n (at xs)
summed_all {n} {xs} {i} d l = d.sum ∙ ap (λ (k : ℕ). sum_below_ℤ k (at xs)) (omega (arith, d.within))

-- ---- order 0 by that sum

module _ (m : ℕ) (xs : List ℤ) (z : ℤ) (fits : mag z < 2 ^ 31) (n : ℕ) (en : n ≡ 2 ^ m) (ez : z ≡ sum_below_ℤ n (at xs)) where
  order_is : order0 m (at (front_of (2 ^ m) xs)) ≡ by_sum m z
  unfolding order0
  order_is =
      ap (by_sum m)
      (sum_ℤ_ext (2 ^ m) _ (at xs) (λ p l. get_or-take (2 ^ m) xs p (pos 0) l) ∙ ap (λ (k : ℕ). sum_below_ℤ k (at xs)) (sym en) ∙ sym ez)

  held : SFits w32 z
  held = record { sfits = fits }

  by_tie : (y : ℤ) → nat_abs y ≡ 0 → by_sum m y ≡ refused 9 0 0
  by_tie (pos zero) e = refl
  by_tie (pos (suc k)) e = absurd (omega arith)
  by_tie (negsuc k) e = absurd (omega arith)

  by_ones : (y : ℤ) → constant_of y ≡ 1 → by_sum m y ≡ accepted (constant m 1) 0 0
  by_ones (pos k) e = absurd (omega arith)
  by_ones (negsuc k) e = refl

  by_zeros : (y : ℤ) → nat_abs y ≢ 0 → constant_of y ≡ 0 → by_sum m y ≡ accepted (constant m 0) 0 0
  by_zeros (pos zero) n e = absurd (n refl)
  by_zeros (pos (suc k)) n e = refl
  by_zeros (negsuc k) n e = absurd (omega arith)

  pub zero_tie : {ys : List ℤ} → of_z w32 z ≡ 0 → Read (2 ^ m) (order0 m (at (front_of (2 ^ m) xs))) ys (as_refused Tie 0 0)
  zero_tie e = let none : nat_abs z ≡ 0 = zero_word held e in rw (order_is, by_tie z none) (record { said = refl; word = tt })

  module _ {k : ℕ} {ys : List ℤ} (ek : k ≡ 2 ^ m) where
    pub zero_ones : lt_z (stored z) (pos 0) ≡ true → ys ≡ replicate k (pos 1) → Read (2 ^ m) (order0 m (at (front_of (2 ^ m) xs))) ys (as_accepted 0 0)
    zero_ones e w = rw (order_is, by_ones z (constant_of_negative z (rw (as_it_is fits) at e))) (constant_read m (lit< tt) ek w)

    pub zero_zeros : (of_z w32 z ≡ 0 → ⊥) → lt_z (stored z) (pos 0) ≡ false → ys ≡ replicate k (pos 0)
        → Read (2 ^ m) (order0 m (at (front_of (2 ^ m) xs))) ys (as_accepted 0 0)
    zero_zeros some e w =
        rw (order_is, by_zeros z (λ q. some (word_zero z q)) (constant_of_other z (rw (as_it_is fits) at e))) (constant_read m (lit< tt) ek w)

-- ---- the values as a part that is lent

module _ {n k : ℕ} (xs : List ℤ) (e : k ≡ n) where
  pub part_values : Values n xs → Values n (take k xs)
  part_values v = record {
    room = omega (arith, length-take-le k xs (omega (arith, v.room)));
    small = λ p l. omega (arith, ap nat_abs (get_or-take k xs p (pos 0) (omega arith)), v.small p l);
  }

  -- it has come back as ys
  pub part_back : (ys : List ℤ) → k ≤ length xs → length ys ≡ k → (q : ℕ) → q < n → at (put_mid 0 k xs ys) q ≡ at ys q
  part_back ys room same q l =
      ap (at (put_mid 0 k xs ys)) {x = q} {y = 0 + q} (omega arith) ∙ back_within (pos 0) 0 k xs (omega arith) ys same q (omega arith)

-- ---- order 1 from the signs that its leaf left

module _ (m : ℕ) (v : ℕ → ℤ) where
  -- what holds of a codeword and of a tie
  by_order1 : (P : Outcome → Type 0) → ((u t : ℕ) → P (accepted (affine m u t) 0 1)) → P (refused 9 0 1) → P (order1 m v)
  by_order1 P a r = ⊎_elim (λ h. rw (order1_alone m v h) (a _ _)) (λ h. rw (order1_shared m v h) r) (peak (2 ^ m) (sizes m v) (pow_pos m))

  -- signs that were turned to bits
  pub signs_bits : {n : ℕ} {ys zs : List ℤ} → n ≡ 2 ^ m → Written (pos 0) 0 n (λ q. pos (constant_of (at ys q))) ys zs
      → Leaf (2 ^ m) (order1 m v) ys true → LeafBits (2 ^ m) (order1 m v) zs true
  signs_bits {n} {ys} {zs} size b f =
      by_order1 (λ (o : Outcome). Leaf (2 ^ m) o ys true → LeafBits (2 ^ m) o zs true)
      (λ u t g.
      let w = word_affine m u t in
      record {
        said = refl;
        word = record {
          size = w.size;
          each = λ q l.
              ap (at zs) {x = q} {y = 0 + q} (omega arith) ∙ b.within q (omega arith)
              ∙ ap pos (ap (λ (i : ℕ). constant_of (at ys i)) {x = q} {y = 0 + q} (omega arith) ∙ g.word.each q l);
          bits = λ q l. w.bits q;
        };
      })
      (λ g. absurd (false≢true (sym g.said))) f

  pub first_tie : {ys zs : List ℤ} → LeafBits (2 ^ m) (order1 m v) ys false → Read (2 ^ m) (order1 m v) zs (as_refused Tie 0 1)
  first_tie {ys} {zs} f =
      by_order1 (λ (o : Outcome). LeafBits (2 ^ m) o ys false → Read (2 ^ m) o zs (as_refused Tie 0 1))
      (λ u t g. absurd (false≢true g.said)) (λ g. record { said = refl; word = tt }) f

  pub first_word : {ys zs : List ℤ} → ((q : ℕ) → q < 2 ^ m → at zs q ≡ at ys q)
      → LeafBits (2 ^ m) (order1 m v) ys true → Read (2 ^ m) (order1 m v) zs (as_accepted 0 1)
  first_word {ys} {zs} e f =
      by_order1 (λ (o : Outcome). LeafBits (2 ^ m) o ys true → Read (2 ^ m) o zs (as_accepted 0 1))
      (λ u t g. record { said = refl; word = record { size = g.word.size; each = λ q l. e q l ∙ g.word.each q l; bits = g.word.bits } })
      (λ g. absurd (false≢true (sym g.said))) f

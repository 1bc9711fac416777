-- Signs and magnitudes as the code computes them. Assumes nothing.
use Prim.Native.Nat.{ℕ, zero, suc, ◌+◌, ◌-◌, ◌%◌, ◌^◌, ◌≤◌, ◌<◌, min}
use mathlib.Core.Path.{◌≡◌, refl, sym, ap, ap₂, ◌∙◌}
use mathlib.Core.Bool.{Bool, true, false, cond, false≢true}
use native.Mathlib.Omega.{arith}
use lib.IntN.{ℤ, pos, negsuc, neg_ℤ, nat_abs, sub_ℕ, ◌+ℤ◌, ◌-ℤ◌, +ℤ_idl, +ℤ_assoc, +ℤ_invr, +ℤ-neg_ℤ_cancel, neg_ℤ-+ℤ}
use lib.Signed.{lt_z, shr_z}
use lib.Dec.{ltb}
use borrow.Author.Tests.{ltb-true, ltb-false}
use mir.Syntax.{w32}
use mir.Val.{SFits}
use mir.Facts.{to_z-of_z}
use Rattle.area.specs.Numbers.{nat_abs-add, nat_abs_neg, stored, stored-eq, Half, sum_fits, sum_stored, difference_fits, difference_stored, negated_fits}
use Rattle.hadamard.specs.Correlation.{signed, constant_of}
use Rattle.hadamard.specs.CorrelationLaws.{constant_of_negative, constant_of_other, nat_abs-signed}
use Rattle.confidences.specs.Confidences.{joint, cut}

-- ---- a number negated by a sign

module _ (x : ℤ) (h : nat_abs x < 2 ^ 31) (z : ℤ) (f : SFits w32 z) where
  pub sign_taken : lt_z (stored z) (pos 0) ≡ true → stored (pos 0 -ℤ stored x) ≡ signed (constant_of z) x
  sign_taken e =
      to_z-of_z (negated_fits x h) ∙ rw (stored-eq x h) (+ℤ_idl (neg_ℤ x)) ∙ sym (ap (λ (k : ℕ). signed k x) (constant_of_negative z (rw (to_z-of_z f) at e)))

  pub sign_left : lt_z (stored z) (pos 0) ≡ false → stored x ≡ signed (constant_of z) x
  sign_left e = stored-eq x h ∙ sym (ap (λ (k : ℕ). signed k x) (constant_of_other z (rw (to_z-of_z f) at e)))

-- ---- the product of the signs and the smaller magnitude, by a sum and a difference

-- the distance of two naturals, and twice the smaller
apart : (a b : ℕ) → nat_abs (sub_ℕ a b) + (min a b + min a b) ≡ a + b
apart a b = go (ltb a b) refl
  where
    go : (t : Bool) → ltb a b ≡ t → nat_abs (cond t (negsuc (b - suc a)) (pos (a - b))) + (min a b + min a b) ≡ a + b
    go true e = omega (arith, ltb-true a b e)
    go false e = omega (arith, ltb-false a b e)

more : (s d k : ℕ) → d + (k + k) ≡ s → pos s -ℤ pos d ≡ pos k +ℤ pos k
more s d k e =
    let whole : s ≡ k + k + d = omega arith in
    ap (λ (x : ℕ). pos x -ℤ pos d) whole ∙ +ℤ-neg_ℤ_cancel (pos (k + k)) (pos d)

less : (s d k : ℕ) → s + (k + k) ≡ d → pos s -ℤ pos d ≡ neg_ℤ (pos k) +ℤ neg_ℤ (pos k)
less s d k e =
    ap (λ (x : ℕ). pos s -ℤ pos x) (sym e)
    ∙ ap (λ (x : ℤ). pos s +ℤ x) (neg_ℤ-+ℤ (pos s) (pos (k + k)))
    ∙ sym (+ℤ_assoc (pos s) (neg_ℤ (pos s)) (neg_ℤ (pos (k + k))))
    ∙ ap (λ (x : ℤ). x +ℤ neg_ℤ (pos (k + k))) (+ℤ_invr (pos s))
    ∙ +ℤ_idl (neg_ℤ (pos (k + k)))
    ∙ neg_ℤ-+ℤ (pos k) (pos k)

-- |y + z| - |y - z| is twice the joint value
pub twice_joint : (y z : ℤ) → pos (nat_abs (y +ℤ z)) -ℤ pos (nat_abs (y -ℤ z)) ≡ joint y z +ℤ joint y z
twice_joint (pos a) (pos zero) = more (a + 0) (a + 0) (min a 0) (omega arith)
twice_joint (pos a) (pos (suc b)) = more (a + suc b) (nat_abs (sub_ℕ a (suc b))) (min a (suc b)) (apart a (suc b))
twice_joint (pos a) (negsuc b) = less (nat_abs (sub_ℕ a (suc b))) (a + suc b) (min a (suc b)) (apart a (suc b))
twice_joint (negsuc a) (pos zero) = less (nat_abs (sub_ℕ 0 (suc a))) (nat_abs (sub_ℕ 0 (suc a))) (min (suc a) 0) (omega arith)
twice_joint (negsuc a) (pos (suc b)) = less (nat_abs (sub_ℕ (suc b) (suc a))) (suc (suc (a + b))) (min (suc a) (suc b)) (omega (arith, apart (suc b) (suc a)))
twice_joint (negsuc a) (negsuc b) = more (suc (suc (a + b))) (nat_abs (sub_ℕ (suc b) (suc a))) (min (suc a) (suc b)) (omega (arith, apart (suc b) (suc a)))

-- a shift halves it
half_twice : (x : ℤ) → shr_z (x +ℤ x) 2 ≡ x
half_twice (pos a) = ap pos (omega arith)
half_twice (negsuc a) = ap negsuc (omega arith)

pub joint_small : (y z : ℤ) → nat_abs (joint y z) ≤ nat_abs y
joint_small y z = omega (arith, nat_abs-signed ((constant_of y + constant_of z) % 2) (pos (min (nat_abs y) (nat_abs z))))

-- ---- the number cut to the range

low : (z : ℤ) → lt_z z (negsuc 2046) ≡ true → negsuc 2046 ≡ cut z
low (pos a) e = absurd (false≢true e)
low (negsuc a) e = let k : 2047 ≡ min (suc a) 2047 = omega (arith, ltb-true 2046 a e) in ap (λ (x : ℕ). neg_ℤ (pos x)) k

high : (z : ℤ) → lt_z (pos 2047) z ≡ true → pos 2047 ≡ cut z
high (pos a) e = ap pos (omega (arith, ltb-true 2047 a e))
high (negsuc a) e = absurd (false≢true e)

between : (z : ℤ) → lt_z z (negsuc 2046) ≡ false → lt_z (pos 2047) z ≡ false → z ≡ cut z
between (pos a) l h = ap pos (omega (arith, ltb-false 2047 a h))
between (negsuc a) l h = let k : suc a ≡ min (suc a) 2047 = omega (arith, ltb-false 2046 a l) in ap (λ (x : ℕ). neg_ℤ (pos x)) k

module _ (z : ℤ) (f : SFits w32 z) where
  pub cut_low : lt_z (stored z) (negsuc 2046) ≡ true → negsuc 2046 ≡ cut z
  cut_low e = low z (rw (to_z-of_z f) at e)

  pub cut_high : lt_z (pos 2047) (stored z) ≡ true → pos 2047 ≡ cut z
  cut_high e = high z (rw (to_z-of_z f) at e)

  pub cut_between : lt_z (stored z) (negsuc 2046) ≡ false → lt_z (pos 2047) (stored z) ≡ false → stored z ≡ cut z
  cut_between l h = to_z-of_z f ∙ between z (rw (to_z-of_z f) at l) (rw (to_z-of_z f) at h)

-- ---- the joint value, as the code has it

module _ (y z : ℤ) (asks : (nat_abs y < 2 ^ 29) × (nat_abs z < 2 ^ 29)) where
  half_one : Half y
  half_one = record { half = omega (arith, asks.0) }

  half_two : Half z
  half_two = record { half = omega (arith, asks.1) }

  pub add_fits : SFits w32 (stored y +ℤ stored z)
  add_fits = sum_fits half_one half_two

  pub sub_fits : SFits w32 (stored y -ℤ stored z)
  sub_fits = difference_fits half_one half_two

  sum_small : nat_abs (y +ℤ z) < 2 ^ 30
  sum_small = omega (arith, nat_abs-add y z, asks.0, asks.1)

  difference_small : nat_abs (y -ℤ z) < 2 ^ 30
  difference_small = omega (arith, nat_abs-add y (neg_ℤ z), nat_abs_neg z, asks.0, asks.1)

  pub sum_read : nat_abs (stored (stored y +ℤ stored z)) < 2 ^ 31
  sum_read = rw (sum_stored half_one half_two) (omega (arith, sum_small))

  pub difference_read : nat_abs (stored (stored y -ℤ stored z)) < 2 ^ 31
  difference_read = rw (difference_stored half_one half_two) (omega (arith, difference_small))

  module _ {u v : ℤ} (eu : u ≡ pos (nat_abs (stored (stored y +ℤ stored z)))) (ev : v ≡ pos (nat_abs (stored (stored y -ℤ stored z)))) where
    one : u ≡ pos (nat_abs (y +ℤ z))
    one = eu ∙ ap (λ (x : ℤ). pos (nat_abs x)) (sum_stored half_one half_two)

    two : v ≡ pos (nat_abs (y -ℤ z))
    two = ev ∙ ap (λ (x : ℤ). pos (nat_abs x)) (difference_stored half_one half_two)

    one_half : Half u
    one_half = rw one (record { half = sum_small })

    two_half : Half v
    two_half = rw two (record { half = difference_small })

    pub sizes_fit : SFits w32 (stored u -ℤ stored v)
    sizes_fit = difference_fits one_half two_half

    pub joint_read : stored (shr_z (stored (stored u -ℤ stored v)) 2) ≡ joint y z
    joint_read =
        let whole : stored (stored u -ℤ stored v) ≡ joint y z +ℤ joint y z =
        difference_stored one_half two_half ∙ ap₂ ◌-ℤ◌ one two ∙ twice_joint y z in
        let halved : shr_z (stored (stored u -ℤ stored v)) 2 ≡ joint y z = ap (λ (x : ℤ). shr_z x 2) whole ∙ half_twice (joint y z) in
        rw halved (stored-eq (joint y z) (omega (arith, joint_small y z, asks.0)))

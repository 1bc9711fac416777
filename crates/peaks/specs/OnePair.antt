-- The sum and the difference of two numbers: which of them has the greater size. Assumes nothing.
use Rattle.std.specs.Prelude.{ℕ, zero, suc, ◌+◌, ◌-◌, ◌≤◌, ◌<◌, ◌≡◌, refl, Bool, true, false, cond, ◌≢◌, ◌⊎◌, ltb, ℤ, pos, negsuc, neg_ℤ, nat_abs, ◌+ℤ◌, ◌-ℤ◌}
use Rattle.std.proofs.Common.{ap, inl, inr, arith, ltb-true, ltb-false}
use Rattle.std.proofs.Math.IntN.{sub_ℕ, +ℤ_idl, +ℤ_idr}
use Rattle.area.specs.Numbers.{nat_abs-add, nat_abs_neg}
use Rattle.hadamard.specs.Correlation.{constant_of}
use Rattle.peaks.specs.Peaks.{alike, lesser_size, pair_size}

-- the one of greater size, and the other
abbrev pub greater_of : ℤ → ℤ → ℤ
greater_of x y = cond (alike x y) (x +ℤ y) (x -ℤ y)

abbrev pub lesser_of : ℤ → ℤ → ℤ
lesser_of x y = cond (alike x y) (x -ℤ y) (x +ℤ y)

pub greater_size : (x y : ℤ) → nat_abs (greater_of x y) ≡ pair_size x y
greater_size (pos a) (pos b) = refl
greater_size (pos a) (negsuc b) = refl
greater_size (negsuc a) (pos zero) = omega (arith, ap nat_abs (+ℤ_idr (negsuc a)))
greater_size (negsuc a) (pos (suc b)) = omega arith
greater_size (negsuc a) (negsuc b) = omega arith

pub greater_constant : (x y : ℤ) → constant_of (greater_of x y) ≡ constant_of x
greater_constant (pos a) (pos b) = refl
greater_constant (pos a) (negsuc b) = refl
greater_constant (negsuc a) (pos zero) = ap constant_of (+ℤ_idr (negsuc a))
greater_constant (negsuc a) (pos (suc b)) = refl
greater_constant (negsuc a) (negsuc b) = refl

sizes_differ : (a b : ℕ) → nat_abs (sub_ℕ (suc a) (suc b)) < suc a + suc b
sizes_differ a b = go (ltb (suc a) (suc b)) refl
  where
    go : (t : Bool) → ltb (suc a) (suc b) ≡ t → nat_abs (cond t (negsuc (suc b - suc (suc a))) (pos (suc a - suc b))) < suc a + suc b
    go true e = omega (arith, ltb-true (suc a) (suc b) e)
    go false e = omega arith

pub lesser_less : (x y : ℤ) → nat_abs x ≢ 0 → nat_abs y ≢ 0 → nat_abs (lesser_of x y) < pair_size x y
lesser_less (pos zero) y nx ny = absurd (nx refl)
lesser_less (pos (suc a)) (pos zero) nx ny = absurd (ny refl)
lesser_less (pos (suc a)) (pos (suc b)) nx ny = sizes_differ a b
lesser_less (pos (suc a)) (negsuc b) nx ny = sizes_differ a b
lesser_less (negsuc a) (pos zero) nx ny = absurd (ny refl)
lesser_less (negsuc a) (pos (suc b)) nx ny = omega (arith, sizes_differ b a)
lesser_less (negsuc a) (negsuc b) nx ny = omega (arith, sizes_differ b a)

pub lesser_most : (x y : ℤ) → nat_abs (lesser_of x y) ≤ pair_size x y
lesser_most x y = go (alike x y)
  where
    go : (t : Bool) → nat_abs (cond t (x -ℤ y) (x +ℤ y)) ≤ pair_size x y
    go true = omega (arith, nat_abs-add x (neg_ℤ y), nat_abs_neg y)
    go false = nat_abs-add x y

-- its size
turned : (a b : ℕ) → nat_abs (sub_ℕ a b) ≡ nat_abs (sub_ℕ b a)
turned a b = go (ltb a b) (ltb b a) refl refl
  where
    size : Bool → ℕ → ℕ → ℕ
    size t c d = nat_abs (cond t (negsuc (d - suc c)) (pos (c - d)))

    go : (s t : Bool) → ltb a b ≡ s → ltb b a ≡ t → size s a b ≡ size t b a
    go true true e f = absurd (omega (arith, ltb-true a b e, ltb-true b a f))
    go true false e f = omega (arith, ltb-true a b e)
    go false true e f = omega (arith, ltb-true b a f)
    go false false e f = omega (arith, ltb-false a b e, ltb-false b a f)

pub lesser_size_lem : (x y : ℤ) → nat_abs (lesser_of x y) ≡ lesser_size x y
lesser_size_lem (pos a) (pos b) = refl
lesser_size_lem (pos a) (negsuc b) = refl
lesser_size_lem (negsuc a) (pos zero) = omega (arith, ap nat_abs (+ℤ_idr (negsuc a)), ap nat_abs (+ℤ_idr (pos (suc a))))
lesser_size_lem (negsuc a) (pos (suc b)) = turned (suc b) (suc a)
lesser_size_lem (negsuc a) (negsuc b) = turned (suc b) (suc a)

-- they are equal where one number is 0
zero_of : (x : ℤ) → nat_abs x ≡ 0 → x ≡ pos 0
zero_of (pos n) e = ap pos e
zero_of (negsuc n) e = absurd (omega arith)

pub lesser_equal : (x y : ℤ) → (nat_abs x ≡ 0) ⊎ (nat_abs y ≡ 0) → nat_abs (lesser_of x y) ≡ pair_size x y
lesser_equal x y z = go (alike x y) z
  where
    go : (t : Bool) → (nat_abs x ≡ 0) ⊎ (nat_abs y ≡ 0) → nat_abs (cond t (x -ℤ y) (x +ℤ y)) ≡ pair_size x y
    go true (inl e) = rw (zero_of x e) (omega (arith, ap nat_abs (+ℤ_idl (neg_ℤ y)), nat_abs_neg y))
    go true (inr e) = rw (zero_of y e) (omega (arith, ap nat_abs (+ℤ_idr x)))
    go false (inl e) = rw (zero_of x e) (omega (arith, ap nat_abs (+ℤ_idl y)))
    go false (inr e) = rw (zero_of y e) (omega (arith, ap nat_abs (+ℤ_idr x)))

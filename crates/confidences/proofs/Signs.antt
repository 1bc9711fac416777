-- Laws of negation by bits, of what two values give together, of the cut, and of order 0 by a sign. Assumes nothing.
use Rattle.std.specs.Prelude.{ℕ, zero, suc, ◌+◌, ◌%◌, ◌<◌, min, ◌≡◌, refl, ℤ, pos, negsuc, neg_ℤ, nat_abs}
use Rattle.std.proofs.Common.{sym, ap, ap₂, ◌∙◌, add_comm, arith}
use Rattle.std.proofs.Math.Nat.{zero-min, min_comm}
use Rattle.std.proofs.Math.IntN.{neg_ℤ-neg_ℤ}
use Rattle.hadamard.specs.Correlation.{signed, constant_of}
use Rattle.hadamard.specs.CorrelationLaws.{constant_of-lt, constant_of-signed, nat_abs-signed, signed_bits}
use Rattle.rule.specs.Reading.{accepted, by_sum, constant}
use Rattle.confidences.specs.Confidences.{cut, greatest, joint}

-- ---- negation by bits

pub signed-zero : (t : ℕ) → signed t (pos 0) ≡ pos 0
signed-zero zero = refl
signed-zero (suc t) = refl

pub signed_twice : (t : ℕ) (z : ℤ) → signed t (signed t z) ≡ z
signed_twice zero z = refl
signed_twice (suc t) z = neg_ℤ-neg_ℤ z

signed_swap : (s t : ℕ) (z : ℤ) → signed s (signed t z) ≡ signed t (signed s z)
signed_swap zero t z = refl
signed_swap (suc s) zero z = refl
signed_swap (suc s) (suc t) z = refl

-- the bit of a value that is not 0 turns
pub bit_signed : (t : ℕ) (z : ℤ) → t < 2 → 0 < nat_abs z → constant_of (signed t z) ≡ (constant_of z + t) % 2
bit_signed t z h k = omega (arith, constant_of-signed t z h k, constant_of-lt (signed t z))

-- a coset's bit and one of its members' bits leave the other member's
pub signed_across : (d a b : ℕ) (z : ℤ) → d < 2 → a < 2 → b < 2 → signed ((d + (a + b) % 2) % 2) (signed b z) ≡ signed a (signed d z)
signed_across d a b z hd ha hb =
    signed_bits d ((a + b) % 2) (signed b z) hd (omega arith)
    ∙ ap (signed d) (signed_bits a b (signed b z) ha hb ∙ ap (signed a) (signed_twice b z)) ∙ signed_swap d a z

-- ---- two values together

joint_neg : (y z : ℤ) → joint (neg_ℤ y) z ≡ neg_ℤ (joint y z)
joint_neg (pos zero) z =
    let e : min 0 (nat_abs z) ≡ 0 = zero-min (nat_abs z) in
    rw e (signed-zero ((0 + constant_of z) % 2) ∙ sym (ap neg_ℤ (signed-zero ((0 + constant_of z) % 2))))
joint_neg (pos (suc n)) (pos k) = refl
joint_neg (pos (suc n)) (negsuc k) = sym (neg_ℤ-neg_ℤ _)
joint_neg (negsuc n) (pos k) = sym (neg_ℤ-neg_ℤ _)
joint_neg (negsuc n) (negsuc k) = refl

pub joint_comm : (y z : ℤ) → joint y z ≡ joint z y
joint_comm y z = ap₂ (λ (t i : ℕ). signed (t % 2) (pos i)) (add_comm (constant_of y) (constant_of z)) (min_comm (nat_abs y) (nat_abs z))

joint_left : (s : ℕ) (y z : ℤ) → joint (signed s y) z ≡ signed s (joint y z)
joint_left zero y z = refl
joint_left (suc s) y z = joint_neg y z

pub joint-signed : (s t : ℕ) (y z : ℤ) → s < 2 → t < 2 → joint (signed s y) (signed t z) ≡ signed ((s + t) % 2) (joint y z)
joint-signed s t y z hs ht =
    joint_left s y (signed t z) ∙ ap (signed s) (joint_comm y (signed t z) ∙ joint_left t z y ∙ ap (signed t) (joint_comm z y))
    ∙ sym (signed_bits s t (joint y z) hs ht)

-- the magnitude is the smaller
pub joint_size : (y z : ℤ) → nat_abs (joint y z) ≡ min (nat_abs y) (nat_abs z)
joint_size y z = nat_abs-signed ((constant_of y + constant_of z) % 2) (pos (min (nat_abs y) (nat_abs z)))

-- ---- the cut

cut_neg : (z : ℤ) → cut (neg_ℤ z) ≡ neg_ℤ (cut z)
cut_neg (pos zero) = refl
cut_neg (pos (suc n)) = refl
cut_neg (negsuc n) = sym (neg_ℤ-neg_ℤ _)

pub cut-signed : (t : ℕ) (z : ℤ) → cut (signed t z) ≡ signed t (cut z)
cut-signed zero z = refl
cut-signed (suc t) z = cut_neg z

pub cut_size : (z : ℤ) → nat_abs (cut z) ≡ min (nat_abs z) greatest
cut_size z = nat_abs-signed (constant_of z) (pos (min (nat_abs z) greatest))

-- ---- order 0 by the sign of the sum

pub by_positive : (m n : ℕ) → 0 < n → by_sum m (pos n) ≡ accepted (constant m 0) 0 0
by_positive m zero h = absurd (omega arith)
by_positive m (suc n) h = refl

pub by_negative : (m n : ℕ) → 0 < n → by_sum m (neg_ℤ (pos n)) ≡ accepted (constant m 1) 0 0
by_negative m zero h = absurd (omega arith)
by_negative m (suc n) h = refl

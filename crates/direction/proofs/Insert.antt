-- The number with a 0 inserted, and the highest one of a direction. Assumes nothing.
use Rattle.std.specs.Prelude.{ℕ, suc, ◌+◌, ◌-◌, ◌*◌, ◌/◌, ◌^◌, ◌≤◌, ◌<◌, ◌≡◌}
use Rattle.std.proofs.Common.{sym, ap, ◌∙◌, subst, add-mul, add_comm, sub-add_cancel, mul_assoc, pow-suc, div-add-mod', div-mul-le_self, arith, pow_pos, pow_mono, pow-add}
use Rattle.std.proofs.Math.Decide.{dec_le}
use Rattle.std.proofs.Math.Nat.{div-eq_of_lt, add-mul-div_right}
use Rattle.std.specs.Int.Count.{count_leading_zeros}
use Rattle.std.proofs.lemmas.Nat.{leading_top}
use Rattle.direction.specs.Direction.{highest, insert_zero}

-- the bits from h on count twice
pub insert_sum : (h q : ℕ) → insert_zero h q ≡ q + q / 2 ^ h * 2 ^ h
unfolding insert_zero
insert_sum h q =
    let twice : q / 2 ^ h * 2 ^ suc h ≡ q / 2 ^ h * 2 ^ h * 2 = ap (λ (x : ℕ). q / 2 ^ h * x) (pow-suc 2 h) ∙ sym (mul_assoc (q / 2 ^ h) (2 ^ h) 2) in
    omega (arith, div-add-mod' q (2 ^ h))

pub insert_lt : (m h q : ℕ) → q < 2 ^ m → insert_zero h q < 2 ^ suc m
insert_lt m h q l = omega (arith, insert_sum h q, div-mul-le_self q (2 ^ h))

-- above every one of q
pub insert_low : (h q : ℕ) → q < 2 ^ h → insert_zero h q ≡ q
insert_low h q l = insert_sum h q ∙ omega (arith, ap (λ (x : ℕ). x * 2 ^ h) (div-eq_of_lt l))

-- below the top bit, which moves up by one
pub insert_top : (m h q : ℕ) → h ≤ m → insert_zero h (2 ^ m + q) ≡ 2 ^ suc m + insert_zero h q
insert_top m h q l =
    let power : 2 ^ m ≡ 2 ^ (m - h) * 2 ^ h = ap (λ (x : ℕ). 2 ^ x) (sym (sub-add_cancel l)) ∙ pow-add 2 (m - h) h in
    let quotient : (2 ^ m + q) / 2 ^ h ≡ q / 2 ^ h + 2 ^ (m - h) =
    ap (λ (x : ℕ). x / 2 ^ h) (add_comm (2 ^ m) q ∙ ap (λ (x : ℕ). q + x) power) ∙ add-mul-div_right q (2 ^ (m - h)) (pow_pos h) in
    let raised : (2 ^ m + q) / 2 ^ h * 2 ^ h ≡ q / 2 ^ h * 2 ^ h + 2 ^ (m - h) * 2 ^ h =
    ap (λ (x : ℕ). x * 2 ^ h) quotient ∙ add-mul (q / 2 ^ h) (2 ^ (m - h)) (2 ^ h) in
    omega (arith, insert_sum h (2 ^ m + q), insert_sum h q)

-- the highest one of b stands at h
pub record Top (h b : ℕ) : Type 0 where
  pub above : 2 ^ h ≤ b
  pub below : b < 2 ^ suc h

pub highest_top : (b : ℕ) → 0 < b → b < 2 ^ 32 → Top (highest b) b
unfolding highest
highest_top b p l =
    let t = leading_top 32 b p l in
    let e : t.0 ≡ 31 - count_leading_zeros 32 b = omega (arith, t.1) in
    record { above = subst (λ (x : ℕ). 2 ^ x ≤ b) e t.2; below = subst (λ (x : ℕ). b < 2 ^ suc x) e t.3 }

pub top_le : {h b : ℕ} → Top h b → (m : ℕ) → b < 2 ^ suc m → h ≤ m
top_le {h} {b} t m l = elim (dec_le h m) [
  | yes k ↦ k
  | no k ↦ absurd (omega (arith, pow_mono {i = suc m} {j = h} (omega arith)))
]

-- A direction of words of exponent m + 1, and the two members of its coset q. Assumes nothing.
use Rattle.std.specs.Prelude.{ℕ, suc, ◌^◌, ◌≤◌, ◌<◌, ◌≡◌, ◌≢◌, ◌⊎◌}
use Rattle.std.proofs.Common.{sym, ap, ◌∙◌, inl, inr, arith, pow_mono}
use Rattle.std.specs.Int.Bits.{bit_xor, xor_self, xor_zero_l}
use Rattle.std.proofs.lemmas.Nat.{xor_lt}
use Rattle.words.specs.Xor.{xor_assoc, xor_twice}
use Rattle.direction.specs.Direction.{coset_of, highest, insert_zero}
use Rattle.direction.proofs.Insert.{Top, highest_top, insert_lt}
use Rattle.direction.proofs.Cosets.{by_coset, insert_coset, coset_same, coset_insert, coset_lt}
use Rattle.direction.specs.IsDirection.{IsDirection}

-- p is the representative of coset q
pub record Members (m b q p : ℕ) : Type 0 where
  pub number : q < 2 ^ m
  pub inserted : p ≡ insert_zero (highest b) q
  pub place : p < 2 ^ suc m
  pub partner : bit_xor p b < 2 ^ suc m

-- a place and its partner are two
pub partner_apart : (p b : ℕ) → 0 < b → bit_xor p b ≢ p
partner_apart p b some e =
    let none : b ≡ 0 = sym (xor_zero_l b) ∙ ap (λ (x : ℕ). bit_xor x b) (sym (xor_self p)) ∙ xor_assoc p p b ∙ ap (bit_xor p) e ∙ xor_self p in
    omega arith

module _ {m b : ℕ} (d : IsDirection m b) where
  pub number_le : 2 ^ m ≤ 512
  number_le = pow_mono {j = 9} d.small

  pub direction_lt : b < 1024
  direction_lt = omega (arith, number_le, d.under)

  pub direction_top : Top (highest b) b
  direction_top = highest_top b d.some (omega (arith, direction_lt))

  -- every place is in a coset numbered below 2 ^ m
  pub number_lt : (p : ℕ) → p < 2 ^ suc m → coset_of b p < 2 ^ m
  number_lt p l = coset_lt b direction_top p m d.under l

  pub members : {h q p : ℕ} → q < 2 ^ m → h ≡ highest b → p ≡ insert_zero h q → Members m b q p
  members {h} {q} {p} l eh e =
      let lp : p < 2 ^ suc m = rw e (insert_lt m h q l) in
      record { number = l; inserted = e ∙ ap (λ (x : ℕ). insert_zero x q) eh; place = lp; partner = xor_lt (suc m) p b lp d.under }

  -- p and p XOR b have coset q's number, and no other place has it
  module _ {q p : ℕ} (t : Members m b q p) where
    pub number_one : coset_of b p ≡ q
    number_one = ap (coset_of b) t.inserted ∙ coset_insert b q

    pub number_two : coset_of b (bit_xor p b) ≡ q
    number_two = coset_same b direction_top p ∙ number_one

    pub only_members : (r : ℕ) → coset_of b r ≡ q → (r ≡ p) ⊎ (r ≡ bit_xor p b)
    only_members r e =
        by_coset b direction_top r (λ (x : ℕ). p ≡ x → (r ≡ p) ⊎ (r ≡ bit_xor p b))
        (λ _ k. inl (sym k))
        (λ _ k. inr (sym (xor_twice r b) ∙ ap (λ (x : ℕ). bit_xor x b) (sym k)))
        (t.inserted ∙ ap (insert_zero (highest b)) (sym e) ∙ insert_coset b direction_top r)

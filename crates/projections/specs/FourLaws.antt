-- Cosets by blocks of 4: with the highest one of b at 2 or above, the cosets q to q + 3 have their members in two blocks of 4 places. Assumes nothing.
use Rattle.std.specs.Prelude.{ℕ, suc, ◌+◌, ◌-◌, ◌*◌, ◌/◌, ◌%◌, ◌^◌, ◌≤◌, ◌<◌, ◌≡◌, ◌≢◌, ◌⊎◌}
use Rattle.std.proofs.Common.{sym, ap, ap₂, ◌∙◌, inl, inr, mul_assoc, sub-add_cancel, arith, pow-add, pow_mono, shr-shr}
use Rattle.std.proofs.Math.Decide.{dec_le}
use Rattle.std.specs.Int.Bits.{bit_xor}
use Rattle.std.proofs.lemmas.Nat.{xor_block, xor_lt}
use Rattle.words.specs.Xor.{xor_twice}
use Rattle.direction.specs.Direction.{insert_zero}
use Rattle.direction.proofs.Insert.{Top, insert_sum}
use Rattle.direction.proofs.Members.{partner_apart}

-- ---- the places of a block

pub four_lt : {i l : ℕ} → i < 4 → l < 4 → bit_xor i l < 4
four_lt {i} {l} hi hl = xor_lt 2 i l hi hl

-- the same digits exchanged leave two places apart
pub four_apart : (l i j : ℕ) → i ≢ j → bit_xor i l ≢ bit_xor j l
four_apart l i j k e = k (sym (xor_twice i l) ∙ ap (λ (x : ℕ). bit_xor x l) e ∙ xor_twice j l)

-- ---- multiples of 4

fourth : (m : ℕ) → 2 ≤ m → 2 ^ m ≡ 2 ^ (m - 2) * 4
fourth m l = ap (λ (x : ℕ). 2 ^ x) (sym (sub-add_cancel l)) ∙ pow-add 2 (m - 2) 2

pub pow_whole : (m : ℕ) → 2 ≤ m → 2 ^ m % 4 ≡ 0
pow_whole m l = omega (arith, fourth m l)

pub high_top : {h b : ℕ} → Top h b → 4 ≤ b → 2 ≤ h
high_top {h} {b} t l = elim (dec_le 2 h) [
  | yes k ↦ k
  | no k ↦ absurd (omega (arith, pow_mono {i = suc h} {j = 2} (omega arith)))
]

-- ---- the representatives of a block of cosets are a block of places

module _ (h q : ℕ) (l : 2 ≤ h) (whole : q % 4 ≡ 0) where
  quotient : (i : ℕ) → i < 4 → (q + i) / 2 ^ h ≡ q / 2 ^ h
  quotient i li =
      let two : 2 + (h - 2) ≡ h = omega arith in
      let shifted : (n : ℕ) → n / 2 ^ h ≡ n / 4 / 2 ^ (h - 2) = λ n. ap (λ (x : ℕ). n / 2 ^ x) (sym two) ∙ sym (shr-shr n 2 (h - 2)) in
      shifted (q + i) ∙ ap (λ (x : ℕ). x / 2 ^ (h - 2)) (omega arith) ∙ sym (shifted q)

  pub insert_four : (i : ℕ) → i < 4 → insert_zero h (q + i) ≡ insert_zero h q + i
  insert_four i li = omega (arith, insert_sum h (q + i), insert_sum h q, ap (λ (x : ℕ). x * 2 ^ h) (quotient i li))

  pub insert_whole : insert_zero h q % 4 ≡ 0
  insert_whole = omega (arith, insert_sum h q, ap (λ (x : ℕ). q / 2 ^ h * x) (fourth h l), mul_assoc (q / 2 ^ h) (2 ^ (h - 2)) 4)

-- ---- and so are their partners, in the order i XOR l

module _ (p w : ℕ) (wp : p % 4 ≡ 0) (ww : w % 4 ≡ 0) where
  split : (i l : ℕ) → i < 4 → l < 4 → bit_xor (p + i) (w + l) ≡ bit_xor (p / 4) (w / 4) * 4 + bit_xor i l
  split i l hi hl =
      let ep : p + i ≡ p / 4 * 4 + i = omega arith in
      let ew : w + l ≡ w / 4 * 4 + l = omega arith in
      ap₂ bit_xor ep ew ∙ xor_block 2 (p / 4) (w / 4) i l hi hl

  start : bit_xor p w ≡ bit_xor (p / 4) (w / 4) * 4
  start =
      let ep : p ≡ p + 0 = omega arith in
      let ew : w ≡ w + 0 = omega arith in
      ap₂ bit_xor ep ew ∙ split 0 0 (omega arith) (omega arith) ∙ omega arith

  pub partner_four : (i l : ℕ) → i < 4 → l < 4 → bit_xor (p + i) (w + l) ≡ bit_xor p w + bit_xor i l
  partner_four i l hi hl = split i l hi hl ∙ ap (λ (x : ℕ). x + bit_xor i l) (sym start)

  -- the two blocks have no place in common
  pub blocks_apart : 0 < w → (p + 4 ≤ bit_xor p w) ⊎ (bit_xor p w + 4 ≤ p)
  blocks_apart some =
      elim (dec_le (p + 4) (bit_xor p w)) [
        | yes k ↦ inl k
        | no k ↦ elim (dec_le (bit_xor p w + 4) p) [
          | yes n ↦ inr n
          | no n ↦ absurd (partner_apart p w some (omega (arith, start)))
        ]
      ]

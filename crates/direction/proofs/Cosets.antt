-- Cosets and their numbers: the projected bit at p's coset is the sum of the bits at p and at p XOR b. Assumes nothing.
use Prim.Native.Nat.{ℕ, zero, suc, ◌+◌, ◌-◌, ◌*◌, ◌/◌, ◌%◌, ◌^◌, ◌≤◌, ◌<◌}
use Rattle.std.specs.Prelude.{◌≡◌, refl, ◌≢◌, List}
use Rattle.std.proofs.Common.{sym, ap₂, ◌∙◌, subst, mod-lt, add_comm, mul_comm, mul_assoc, one-mul, sub-add_cancel, pow-suc, div-add-mod', add-one, arith, pow_pos, pow-add, shr_lt, shr-shr}
use Rattle.std.proofs.Math.Path.{ap}
use Rattle.std.proofs.Math.Decide.{ℕ_discrete}
use Rattle.std.proofs.Math.Arith.{digits_lt}
use Rattle.std.specs.Int.Bits.{bit_xor, differ, xor_lt}
use Rattle.std.proofs.lemmas.Nat.{xor_shr}
use Rattle.std.proofs.Math.Pow.{high, low}
use borrow.Author.Tests.{eq-eqb, ne_eqb}
use Rattle.direction.specs.Direction.{coset_of, delete_bit, highest, insert_zero, project, representative}
use Rattle.direction.proofs.Insert.{Top, top_le}
use Rattle.direction.proofs.Projected.{bit-project}
use Rattle.words.specs.Word.{bit}
use Rattle.words.specs.Xor.{xor_low, xor_twice}

-- the bit of p at position h
abbrev pub at : ℕ → ℕ → ℕ
at h p = p / 2 ^ h % 2

pow-suc_left : (x h : ℕ) → x * 2 ^ suc h ≡ x * 2 * 2 ^ h
pow-suc_left x h = ap (λ (y : ℕ). x * y) (pow-suc 2 h ∙ mul_comm (2 ^ h) 2) ∙ sym (mul_assoc x 2 (2 ^ h))

-- ---- deleting and inserting

pub insert_delete : (h p : ℕ) → at h p ≡ 0 → insert_zero h (delete_bit h p) ≡ p
unfolding insert_zero delete_bit
insert_delete h p e =
    let y : ℕ = p / 2 ^ suc h in
    let r : ℕ = p % 2 ^ h in
    let lr : r < 2 ^ h = mod-lt p (pow_pos h) in
    let half : y ≡ p / 2 ^ h / 2 = ap (λ (x : ℕ). p / 2 ^ x) (sym (add-one h)) ∙ sym (shr-shr p h 1) in
    let even : y * 2 ≡ p / 2 ^ h = omega arith in
    ap₂ (λ (u v : ℕ). u * 2 ^ suc h + v) (high y h lr) (low y h lr)
    ∙ ap (λ (u : ℕ). u + r) (pow-suc_left y h ∙ ap (λ (u : ℕ). u * 2 ^ h) even)
    ∙ div-add-mod' p (2 ^ h)

pub delete_insert : (h q : ℕ) → delete_bit h (insert_zero h q) ≡ q
unfolding insert_zero delete_bit
delete_insert h q =
    let y : ℕ = q / 2 ^ h in
    let r : ℕ = q % 2 ^ h in
    let lr : r < 2 ^ h = mod-lt q (pow_pos h) in
    ap₂ (λ (u v : ℕ). u * 2 ^ h + v)
    (high y (suc h) (omega arith))
    (ap (λ (x : ℕ). (x + r) % 2 ^ h) (pow-suc_left y h) ∙ low (y * 2) h lr)
    ∙ div-add-mod' q (2 ^ h)

pub insert_at : (h q : ℕ) → at h (insert_zero h q) ≡ 0
unfolding insert_zero
insert_at h q =
    let r : ℕ = q % 2 ^ h in
    let y : ℕ = q / 2 ^ h in
    ap (λ (x : ℕ). (x + r) / 2 ^ h % 2) (pow-suc_left y h) ∙ ap (λ (x : ℕ). x % 2) (high (y * 2) h (mod-lt q (pow_pos h))) ∙ omega arith

pub delete_lt : (m h p : ℕ) → h ≤ m → p < 2 ^ suc m → delete_bit h p < 2 ^ m
unfolding delete_bit
delete_lt m h p l hp =
    let e : m - h + suc h ≡ suc m = omega arith in
    subst (λ (x : ℕ). delete_bit h p < x) (sym (pow-add 2 (m - h) h) ∙ ap (λ (x : ℕ). 2 ^ x) (sub-add_cancel l))
    (digits_lt (shr_lt (m - h) (suc h) (subst (λ (x : ℕ). p < 2 ^ x) (sym e) hp)) (mod-lt p (pow_pos h)))

-- ---- the coset of p in the direction b, whose highest one stands at h

-- the direction's bit at h is 1
top_at : {h b : ℕ} → Top h b → b / 2 ^ h ≡ 1
top_at {h} {b} t =
    let e : 1 * 2 ^ h + (b - 2 ^ h) ≡ b = omega (arith, t.above, one-mul (2 ^ h)) in
    ap (λ (x : ℕ). x / 2 ^ h) (sym e) ∙ high 1 h (omega (arith, t.above, t.below))

flip : (x : ℕ) → x < 2 → x ≢ 0 → differ x 1 ≡ 0
flip zero l k = absurd (k refl)
flip (suc zero) l k = refl
flip (suc (suc x)) l k = absurd (omega arith)

-- so of p and p XOR b exactly one has bit h zero
xor-at : {h b : ℕ} → Top h b → (p : ℕ) → at h (bit_xor p b) ≡ differ (at h p) 1
xor-at {h} {b} t p =
    ap (λ (x : ℕ). x % 2) (xor_shr p b h ∙ ap (bit_xor (p / 2 ^ h)) (top_at t)) ∙ xor_low (p / 2 ^ h) 1

module _ (b : ℕ) (t : Top (highest b) b) (p : ℕ) where
  -- where p's bit h is 1, that of p XOR b is 0
  other_low : at (highest b) p ≢ 0 → at (highest b) (bit_xor p b) ≡ 0
  other_low k = xor-at t p ∙ flip (at (highest b) p) (omega arith) k

  -- the representative is p itself, or p XOR b
  pub by_coset : (P : ℕ → Type 0) → (at (highest b) p ≡ 0 → P p) → (at (highest b) (bit_xor p b) ≡ 0 → P (bit_xor p b)) → P (representative b p)
  unfolding representative
  by_coset P one two = elim (ℕ_discrete (at (highest b) p) 0) [
    | yes e ↦ rw (eq-eqb (at (highest b) p) 0 e) (one e)
    | no k ↦ rw (ne_eqb (at (highest b) p) 0 k) (two (other_low k))
  ]

  representative_same : representative b (bit_xor p b) ≡ representative b p
  unfolding representative
  representative_same = elim (ℕ_discrete (at (highest b) p) 0) [
    | yes e ↦
        let one : at (highest b) (bit_xor p b) ≡ 1 = xor-at t p ∙ ap (λ (x : ℕ). differ x 1) e in
        rw (eq-eqb (at (highest b) p) 0 e, ne_eqb (at (highest b) (bit_xor p b)) 0 (λ z. omega arith)) (xor_twice p b)
    | no k ↦ rw (ne_eqb (at (highest b) p) 0 k, eq-eqb (at (highest b) (bit_xor p b)) 0 (other_low k))
  ]

  -- both members of a coset have its number
  pub coset_same : coset_of b (bit_xor p b) ≡ coset_of b p
  unfolding coset_of
  coset_same = ap (delete_bit (highest b)) representative_same

  pub insert_coset : insert_zero (highest b) (coset_of b p) ≡ representative b p
  unfolding coset_of
  insert_coset = insert_delete (highest b) (representative b p) (by_coset (λ (x : ℕ). at (highest b) x ≡ 0) (λ e. e) (λ e. e))

  pub coset_lt : (m : ℕ) → b < 2 ^ suc m → p < 2 ^ suc m → coset_of b p < 2 ^ m
  unfolding coset_of
  coset_lt m hb hp =
      delete_lt m (highest b) (representative b p) (top_le t m hb) (by_coset (λ (x : ℕ). x < 2 ^ suc m) (λ e. hp) (λ e. xor_lt (suc m) p b hp hb))

  -- the projected bit at p's coset
  pub project_coset : (m : ℕ) (w : List ℕ) → b < 2 ^ suc m → p < 2 ^ suc m → bit (project m b w) (coset_of b p) ≡ (bit w p + bit w (bit_xor p b)) % 2
  project_coset m w hb hp =
      bit-project m b w (coset_of b p) (coset_lt m hb hp)
      ∙ ap (λ (x : ℕ). (bit w x + bit w (bit_xor x b)) % 2) insert_coset
      ∙ by_coset (λ (x : ℕ). (bit w x + bit w (bit_xor x b)) % 2 ≡ (bit w p + bit w (bit_xor p b)) % 2)
      (λ e. refl)
      (λ e. ap (λ (x : ℕ). (bit w (bit_xor p b) + bit w x) % 2) (xor_twice p b) ∙ ap (λ (x : ℕ). x % 2) (add_comm (bit w (bit_xor p b)) (bit w p)))

-- every number below 2 ^ m numbers a coset: that of the place with a 0 inserted
pub coset_insert : (b q : ℕ) → coset_of b (insert_zero (highest b) q) ≡ q
unfolding coset_of representative
coset_insert b q = rw (eq-eqb (at (highest b) (insert_zero (highest b) q)) 0 (insert_at (highest b) q)) (delete_insert (highest b) q)

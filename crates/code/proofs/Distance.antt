-- "The distance of the code is 2^(m − r)": two different codewords differ in at least that many places, and some two in exactly that many.
-- Assumes nothing.
use Prim.Native.Nat.{ℕ, zero, suc, ◌+◌, ◌*◌, ◌%◌, ◌^◌, ◌-◌, ◌≤◌, ◌<◌, min}
use Rattle.std.specs.Prelude.{◌≡◌, refl, ◌⊎◌, ◌≢◌, Bool, true, false, List, ltb}
use Rattle.std.proofs.Common.{sym, ap, ◌∙◌, subst, not-suc-le-zero, le_of_suc-le-suc, eq-or-lt_of_le, mul-one, mul-add, mul_assoc, mul_comm, mul-le-mul_left, pow-suc, add-zero, arith, pow_pos, pow_mono, pow-add, ltb-true, ltb-false, lt-ltb, le-ltb}
use Rattle.std.proofs.Math.Logic.{inl, inr, ⊎_elim}
use Rattle.std.proofs.Math.Decide.{ℕ_discrete}
use Rattle.std.proofs.Math.Nat.{le_of_mul-le-mul_left, zero-min}
use Rattle.std.proofs.Math.Arith.{lt-one}
use Rattle.code.specs.Affine.{even_of_low, low_constant}
use Rattle.code.specs.Code.{IsCodeword}
use Rattle.code.proofs.Codewords.{codeword_of_low, low_of_codeword}
use Rattle.code.specs.Degree.{Low, ◌⊕◌, low_first, low_join, low_more, low_parity, low_plus, low_sum, second}
use Rattle.words.specs.Sum.{sum_below, tabulate, total}
use Rattle.words.specs.SumLaws.{bit_tabulate, sum_ext, sum_halves, sum_le, sum_plus, sum_zero}
use Rattle.words.specs.TopBit.{by_top}
use Rattle.words.specs.Word.{IsWord, bit, distance, indicator}
use Rattle.words.proofs.WordLaws.{indicator-lt, word_ext, word_tabulate}

-- the number of ones
unfoldable pub weight : ℕ → (ℕ → ℕ) → ℕ
weight m f = sum_below (2 ^ m) (λ p. f p % 2)

-- a place where f is odd
pub record Odd (n : ℕ) (f : ℕ → ℕ) : Type 0 where
  pub place : ℕ
  pub within : place < n
  pub odd : f place % 2 ≡ 1

pub even_or_odd : (n : ℕ) (f : ℕ → ℕ) → ((p : ℕ) → p < n → f p % 2 ≡ 0) ⊎ Odd n f
even_or_odd zero f = inl (λ p l. absurd (not-suc-le-zero l))
even_or_odd (suc n) f = elim (ℕ_discrete (f n % 2) 0) [
  | yes e ↦ ⊎_elim
      (λ h. inl (λ p l. ⊎_elim (λ q. ap (λ (x : ℕ). f x % 2) q ∙ e) (h p) (eq-or-lt_of_le (le_of_suc-le-suc l))))
      (λ o. inr (record { place = o.place; within = omega (arith, o.within); odd = o.odd }))
      (even_or_odd n f)
  | no k ↦ inr (record { place = n; within = omega arith; odd = omega (arith, k) })
]

weight_halves : (m : ℕ) (f : ℕ → ℕ) → weight (suc m) f ≡ weight m f + weight m (second m f)
unfolding weight
weight_halves m f = sum_halves m (λ p. f p % 2)

weight_same : (m : ℕ) (f g : ℕ → ℕ) → ((p : ℕ) → p < 2 ^ m → (f ⊕ g) p % 2 ≡ 0) → weight m f ≡ weight m g
unfolding weight
weight_same m f g h = sum_ext (2 ^ m) _ _ (λ p l. omega (arith, h p l))

weight_plus : (m : ℕ) (f g : ℕ → ℕ) → weight m (f ⊕ g) ≤ weight m f + weight m g
unfolding weight
weight_plus m f g = omega (arith, sum_le (2 ^ m) (λ p. (f p + g p) % 2) (λ p. f p % 2 + g p % 2) (λ p l. omega arith), sum_plus (2 ^ m) (λ p. f p % 2) (λ p. g p % 2))

-- where the halves agree, both are odd
odd_first : (m : ℕ) (f : ℕ → ℕ) → Odd (2 ^ suc m) f → ((p : ℕ) → p < 2 ^ m → (f ⊕ second m f) p % 2 ≡ 0) → Odd (2 ^ m) f
odd_first m f o e =
    by_top m (λ (p : ℕ). f p % 2 ≡ 1 → Odd (2 ^ m) f)
    (λ p l d. record { place = p; within = l; odd = d })
    (λ p l d. record { place = p; within = l; odd = omega (arith, e p l) })
    o.place o.within o.odd

-- one degree lower, twice the ones
lower : (m s : ℕ) (g : ℕ → ℕ) → ((t : ℕ) → Low m (suc t) g → 2 ^ m ≤ 2 ^ t * weight m g) → Low m s g → Odd (2 ^ m) g → 2 ^ suc m ≤ 2 ^ s * weight m g
lower m zero g ih low o = absurd (omega (arith, o.odd, even_of_low m g low o.place o.within))
lower m (suc s) g ih low o =
    omega (arith, ih s low, ap (λ (x : ℕ). x * weight m g) (pow-suc 2 s ∙ mul_comm (2 ^ s) 2), mul_assoc 2 (2 ^ s) (weight m g))

pub low_weight : (m r : ℕ) (f : ℕ → ℕ) → Low m (suc r) f → Odd (2 ^ m) f → 2 ^ m ≤ 2 ^ r * weight m f
unfolding weight total
low_weight zero r f low o =
    let one : 0 + f 0 % 2 ≡ 1 = omega (arith, o.odd, ap f (lt-one o.within)) in
    omega (arith, ap (λ (x : ℕ). 2 ^ r * x) one, mul-one (2 ^ r), pow_pos r)
low_weight (suc m) r f low o =
    let g : ℕ → ℕ = f ⊕ second m f in
    ⊎_elim
    (λ e. omega (
      arith,
      low_weight m r f (low_first low) (odd_first m f o e),
      ap (λ (x : ℕ). 2 ^ r * x) (weight_halves m f),
      mul-add (2 ^ r) (weight m f) (weight m (second m f)),
      ap (λ (x : ℕ). 2 ^ r * x) (weight_same m f (second m f) e),
    ))
    (λ d. omega (
      arith,
      lower m r g (λ t l. low_weight m t g l d) (low_sum low) d,
      mul-le-mul_left (2 ^ r) (weight_plus m f (second m f)),
      ap (λ (x : ℕ). 2 ^ r * x) (weight_halves m f),
    ))
    (even_or_odd (2 ^ m) g)

-- ---- of codewords

module _ {m r : ℕ} (h : r ≤ m) where
  -- two codewords are equal, or at least the distance apart
  pub same_or_apart : {c d : List ℕ} → IsCodeword m r c → IsCodeword m r d → (c ≡ d) ⊎ (2 ^ (m - r) ≤ distance m c d)
  unfolding distance weight
  same_or_apart {c} {d} hc hd =
      ⊎_elim
      (λ e. inl (word_ext hc.word hd.word (λ p l. omega (arith, e p l, hc.word.bits p, hd.word.bits p))))
      (λ o. inr (le_of_mul-le-mul_left (subst (λ (x : ℕ). x ≤ 2 ^ r * distance m c d) power (low_weight m r f (low_plus (low_of_codeword hc) (low_of_codeword hd)) o)) (pow_pos r)))
      (even_or_odd (2 ^ m) f)
    where
      f : ℕ → ℕ
      f = bit c ⊕ bit d

      power : 2 ^ m ≡ 2 ^ r * 2 ^ (m - r)
      power = let e : r + (m - r) ≡ m = omega arith in ap (λ (x : ℕ). 2 ^ x) (sym e) ∙ pow-add 2 r (m - r)

  pub code_distance : {c d : List ℕ} → IsCodeword m r c → IsCodeword m r d → c ≢ d → 2 ^ (m - r) ≤ distance m c d
  code_distance hc hd ne = ⊎_elim (λ e. absurd (ne e)) (λ k. k) (same_or_apart hc hd)

-- ---- the distance is met

-- ones at the first 2 ^ k places
abbrev first_ones : ℕ → ℕ → ℕ
first_ones k p = indicator (ltb p (2 ^ k))

-- of exponent k + j they have order j
first_low : (k j m : ℕ) → j + k ≡ m → Low m (suc j) (first_ones k)
first_low k zero m e = low_parity (low_constant m 1) _ (λ p l. ap (λ (b : Bool). indicator b % 2) (sym (lt-ltb p (2 ^ k) (subst (λ (x : ℕ). p < 2 ^ x) (omega arith) l))))
first_low k (suc j) zero e = absurd (omega arith)
first_low k (suc j) (suc m) e =
    let u : Low m (suc j) (first_ones k) = first_low k j m (omega arith) in
    low_join m (suc (suc j)) (first_ones k) (low_more u (suc (suc j)) (omega arith))
    (low_parity u _ (λ p l. ap (λ (x : ℕ). x % 2) (sym (add-zero (first_ones k p))) ∙ ap (λ (b : Bool). (first_ones k p + indicator b) % 2) (sym (le-ltb (2 ^ m + p) (2 ^ k) (omega (arith, pow_mono {i = k} {j = m} (omega arith)))))))

first_count : (n k : ℕ) → sum_below n (λ p. indicator (ltb p k)) ≡ min n k
unfolding total
first_count zero k = sym (zero-min k)
first_count (suc n) k = ap (λ (x : ℕ). x + indicator (ltb n k)) (first_count n k) ∙ go (ltb n k) refl
  where
    go : (t : Bool) → ltb n k ≡ t → min n k + indicator t ≡ min (suc n) k
    go true e = omega (arith, ltb-true n k e)
    go false e = omega (arith, ltb-false n k e)

-- the distance from the zero word is the number of ones
pub distance-zero : {m : ℕ} {w : List ℕ} → IsWord m w → distance m w (tabulate (2 ^ m) (λ p. 0)) ≡ sum_below (2 ^ m) (bit w)
unfolding distance
distance-zero {m} {w} hw = sum_ext (2 ^ m) _ _ (λ p l. omega (arith, bit_tabulate (2 ^ m) (λ q. 0) p l, hw.bits p))

-- a codeword that is just the distance away from the zero word
pub distance_met : (m r : ℕ) → r ≤ m → (d : List ℕ) × IsCodeword m r d × (distance m d (tabulate (2 ^ m) (λ p. 0)) ≡ 2 ^ (m - r))
distance_met m r h = (
  d,
  codeword_of_low hd (low_parity (first_low (m - r) r m (omega arith)) (bit d) (λ p l. ap (λ (x : ℕ). x % 2) (sym (at p l)))),
  distance-zero hd ∙ sum_ext (2 ^ m) _ _ at ∙ first_count (2 ^ m) (2 ^ (m - r)) ∙ omega (arith, pow_mono {i = m - r} {j = m} (omega arith)),
)
  where
    d : List ℕ
    d = tabulate (2 ^ m) (first_ones (m - r))

    hd : IsWord m d
    hd = word_tabulate m (first_ones (m - r)) (λ p l. indicator-lt (ltb p (2 ^ (m - r))))

    at : (p : ℕ) → p < 2 ^ m → bit d p ≡ first_ones (m - r) p
    at p l = bit_tabulate (2 ^ m) (first_ones (m - r)) p l

pub distance_self : (m : ℕ) (w : List ℕ) → distance m w w ≡ 0
unfolding distance
distance_self m w = sum_zero (2 ^ m) _ (λ p l. omega arith)

pub triangle : (m : ℕ) (w c d : List ℕ) → distance m c d ≤ distance m w c + distance m w d
unfolding distance
triangle m w c d =
    omega (
      arith,
      sum_le (2 ^ m) (λ p. (bit c p + bit d p) % 2) (λ p. (bit w p + bit c p) % 2 + (bit w p + bit d p) % 2) (λ p l. omega arith),
      sum_plus (2 ^ m) (λ p. (bit w p + bit c p) % 2) (λ p. (bit w p + bit d p) % 2),
    )

-- Correlations by a place's two low digits: the values at places 4 i, 4 i + 1, 4 i + 2 and 4 i + 3 are correlated for themselves, and the
-- two low digits of the mask say which of the four are subtracted. Assumes nothing.
use Rattle.std.specs.Prelude.{ℕ, zero, suc, ◌+◌, ◌*◌, ◌/◌, ◌%◌, ◌^◌, ◌<◌, ◌≡◌, refl, Bool, true, false, cond, eqb, ltb, ℤ, neg_ℤ, ◌+ℤ◌, ◌-ℤ◌}
use Rattle.std.proofs.Common.{sym, ap, ap₂, ◌∙◌, arith}
use Rattle.std.proofs.Math.IntN.{neg_ℤ-+ℤ}
use Rattle.words.specs.TopBit.{by_top}
use Rattle.hadamard.specs.Correlation.{correlation}
use Rattle.hadamard.specs.CorrelationLaws.{correlation_ext, swap4}
use Rattle.hadamard.specs.Transform.{correlation_low, correlation_top}

-- the sum, or where t is odd the difference
abbrev pub by_low : ℕ → ℤ → ℤ → ℤ
by_low t x y = cond (eqb (t % 2) 0) (x +ℤ y) (x -ℤ y)

-- four numbers joined by the two low digits of u: the lower within each pair, the higher between the pairs
abbrev pub by_digits : ℕ → ℤ → ℤ → ℤ → ℤ → ℤ
by_digits u a b c d = cond (ltb (u % 4) 2) (by_low u a b +ℤ by_low u c d) (by_low u a b -ℤ by_low u c d)

-- the correlation with u, by the digits of u and the four correlations with its quarter
abbrev pub Digits : ℕ → (ℕ → ℤ) → ℕ → Type 0
Digits k v u =
    correlation (suc (suc k)) v u
    ≡ by_digits u
    (correlation k (λ i. v (4 * i)) (u / 4))
    (correlation k (λ i. v (4 * i + 1)) (u / 4))
    (correlation k (λ i. v (4 * i + 2)) (u / 4))
    (correlation k (λ i. v (4 * i + 3)) (u / 4))

-- ---- sums and differences by a test

abbrev joined : Bool → ℤ → ℤ → ℤ
joined s x y = cond s (x +ℤ y) (x -ℤ y)

-- by two tests, in either order
joined_swap : (s t : Bool) (a b c d : ℤ) → joined s (joined t a b) (joined t c d) ≡ joined t (joined s a c) (joined s b d)
joined_swap true true a b c d = swap4 a b c d
joined_swap true false a b c d = swap4 a (neg_ℤ b) c (neg_ℤ d) ∙ ap (λ (x : ℤ). (a +ℤ c) +ℤ x) (sym (neg_ℤ-+ℤ b d))
joined_swap false true a b c d = ap (λ (x : ℤ). (a +ℤ b) +ℤ x) (neg_ℤ-+ℤ c d) ∙ swap4 a b (neg_ℤ c) (neg_ℤ d)
joined_swap false false a b c d =
    ap (λ (x : ℤ). (a -ℤ b) +ℤ x) (neg_ℤ-+ℤ c (neg_ℤ d)) ∙ swap4 a (neg_ℤ b) (neg_ℤ c) (neg_ℤ (neg_ℤ d))
    ∙ ap (λ (x : ℤ). (a -ℤ c) +ℤ x) (sym (neg_ℤ-+ℤ b (neg_ℤ d)))

-- z is x and y joined
record Joined (t : Bool) (x y z : ℤ) : Type 0 where
  is : joined t x y ≡ z

joined_both : (s : Bool) {t : Bool} {a b c d x y : ℤ} → Joined t a c x → Joined t b d y → Joined t (joined s a b) (joined s c d) (joined s x y)
joined_both s {t} {a} {b} {c} {d} ex ey = record { is = joined_swap t s a b c d ∙ ap₂ (joined s) ex.is ey.is }

-- ---- the top digit of a mask: t says that it is 0

abbrev topped : Bool → ℕ → ℕ → ℕ
topped t m u = cond t u (2 ^ m + u)

correlation-topped : (t : Bool) (m : ℕ) (v : ℕ → ℤ) (u : ℕ) → u < 2 ^ m
    → correlation (suc m) v (topped t m u) ≡ joined t (correlation m v u) (correlation m (λ p. v (2 ^ m + p)) u)
correlation-topped true m v u h = correlation_low m v u h
correlation-topped false m v u h = correlation_top m v u h

-- the mask's two low digits and its quarter
topped_low : (t : Bool) (k u : ℕ) → topped t (suc (suc k)) u % 2 ≡ u % 2
topped_low true k u = refl
topped_low false k u = omega arith

topped_quarter : (t : Bool) (k u : ℕ) → topped t (suc (suc k)) u / 4 ≡ topped t k (u / 4)
topped_quarter true k u = refl
topped_quarter false k u = omega arith

topped_second : (t : Bool) (k u : ℕ) → topped t (suc (suc k)) u % 4 ≡ u % 4
topped_second true k u = refl
topped_second false k u = omega (arith, topped_quarter false k u)

-- ---- one digit more

module _ (t : Bool) (k : ℕ) (v : ℕ → ℤ) (u : ℕ) (h : u < 2 ^ suc (suc k)) where
  abbrev second : ℕ → ℤ
  second p = v (2 ^ suc (suc k) + p)

  abbrev mask : ℕ
  mask = topped t (suc (suc k)) u

  -- the values at the places g i
  part : (g : ℕ → ℕ) → ((i : ℕ) → g (2 ^ k + i) ≡ 2 ^ suc (suc k) + g i)
      → Joined t (correlation k (λ i. v (g i)) (u / 4)) (correlation k (λ i. second (g i)) (u / 4)) (correlation (suc k) (λ i. v (g i)) (mask / 4))
  part g e = record {
    is = sym (ap (correlation (suc k) (λ i. v (g i))) (topped_quarter t k u) ∙ correlation-topped t k (λ i. v (g i)) (u / 4) (omega arith)
        ∙ ap (joined t (correlation k (λ i. v (g i)) (u / 4))) (correlation_ext k _ _ (λ i l. ap v (e i)) (u / 4)));
  }

  digits_more : Digits k v u → Digits k second u → Digits (suc k) v mask
  digits_more e f =
      let low : Bool = eqb (u % 2) 0 in
      rw (topped_second t k u, topped_low t k u)
      (correlation-topped t (suc (suc k)) v u h ∙ ap₂ (joined t) e f
      ∙ (joined_both (ltb (u % 4) 2)
      (joined_both low (part (λ i. 4 * i) (λ i. omega arith)) (part (λ i. 4 * i + 1) (λ i. omega arith)))
      (joined_both low (part (λ i. 4 * i + 2) (λ i. omega arith)) (part (λ i. 4 * i + 3) (λ i. omega arith)))
      ).is)

-- ---- the law

-- masks of one digit, and of two
two : (s : Bool) (v f g : ℕ → ℤ) → ((p : ℕ) → p < 1 → v p ≡ f p) → ((p : ℕ) → p < 1 → v (1 + p) ≡ g p)
    → correlation 1 v (topped s 0 0) ≡ joined s (correlation 0 f 0) (correlation 0 g 0)
two s v f g e k = correlation-topped s 0 v 0 (omega arith) ∙ ap₂ (joined s) (correlation_ext 0 v f e 0) (correlation_ext 0 (λ p. v (1 + p)) g k 0)

four : (t s : Bool) (v : ℕ → ℤ)
    → correlation 2 v (topped t 1 (topped s 0 0))
    ≡ joined t
    (joined s (correlation 0 (λ i. v (4 * i)) 0) (correlation 0 (λ i. v (4 * i + 1)) 0))
    (joined s (correlation 0 (λ i. v (4 * i + 2)) 0) (correlation 0 (λ i. v (4 * i + 3)) 0))
four t s v =
    correlation-topped t 1 v (topped s 0 0) (low s)
    ∙ ap₂ (joined t)
    (two s v (λ i. v (4 * i)) (λ i. v (4 * i + 1)) (λ p l. ap v (omega arith)) (λ p l. ap v (omega arith)))
    (two s (λ p. v (2 + p)) (λ i. v (4 * i + 2)) (λ i. v (4 * i + 3)) (λ p l. ap v (omega arith)) (λ p l. ap v (omega arith)))
  where
    low : (s : Bool) → topped s 0 0 < 2
    low true = omega arith
    low false = omega arith

pub correlation_digits : (k : ℕ) (v : ℕ → ℤ) (u : ℕ) → u < 2 ^ suc (suc k) → Digits k v u
correlation_digits zero v zero h = four true true v
correlation_digits zero v (suc zero) h = four true false v
correlation_digits zero v (suc (suc zero)) h = four false true v
correlation_digits zero v (suc (suc (suc zero))) h = four false false v
correlation_digits zero v (suc (suc (suc (suc u)))) h = absurd (omega arith)
correlation_digits (suc k) v u h =
    by_top (suc (suc k)) (Digits (suc k) v)
    (λ x l. digits_more true k v x l (correlation_digits k v x l) (correlation_digits k (λ p. v (2 ^ suc (suc k) + p)) x l))
    (λ x l. digits_more false k v x l (correlation_digits k v x l) (correlation_digits k (λ p. v (2 ^ suc (suc k) + p)) x l))
    u h

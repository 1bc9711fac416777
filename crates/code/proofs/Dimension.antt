-- "k the sum of the binomials of m over 0 to r", at most n, and each binomial from the one before. Assumes nothing.
use Rattle.std.specs.Prelude.{ℕ, zero, suc, ◌+◌, ◌*◌, ◌-◌, ◌/◌, ◌^◌, ◌≤◌, ◌≡◌, refl, Bool, leb}
use Rattle.std.proofs.Common.{add-zero, add-mul, mul-add, mul-suc, mul-div_cancel, add-one, arith, sym, ap, ap₂, ◌∙◌, pow_mono}
use Rattle.std.proofs.Math.Nat.{pow-le-pow_right}
use Rattle.std.proofs.Math.Dec.{leb-zero, leb-suc-zero, leb-suc-suc}
use Rattle.std.specs.Int.Count.{ones}
use Rattle.code.specs.Code.{degree, dimension, rank}
use Rattle.words.specs.Sum.{sum_below, total}
use Rattle.words.specs.SumLaws.{sum_ext, sum_halves, sum_most, sum_zero}
use Rattle.words.specs.TopBit.{ones_top}
use Rattle.words.specs.Word.{indicator}
use Rattle.words.proofs.WordLaws.{indicator-lt}
use Rattle.code.specs.Dimension.{choose}

-- a mask with the top bit has one more one
dimension_halves : (m r : ℕ) → dimension (suc m) r ≡ dimension m r + sum_below (2 ^ m) (λ A. indicator (leb (suc (degree A)) r))
unfolding dimension rank
dimension_halves m r =
    sum_halves m (λ B. indicator (leb (degree B) r))
    ∙ ap (λ (x : ℕ). dimension m r + x) (sum_ext (2 ^ m) _ _ (λ A a. ap (λ (d : ℕ). indicator (leb d r)) (ones_top m A a)))

dimension-suc : (m r : ℕ) → dimension (suc m) (suc r) ≡ dimension m (suc r) + dimension m r
unfolding dimension rank
dimension-suc m r = dimension_halves m (suc r) ∙ ap (λ (x : ℕ). dimension m (suc r) + x) (sum_ext (2 ^ m) _ _ (λ A a. ap indicator (leb-suc-suc (degree A) r)))

dimension_constant : (m : ℕ) → dimension (suc m) 0 ≡ dimension m 0
dimension_constant m =
    dimension_halves m 0
    ∙ ap (λ (x : ℕ). dimension m 0 + x) (sum_zero (2 ^ m) _ (λ A a. ap indicator (leb-suc-zero (degree A)))) ∙ add-zero _

-- the sums of binomials grow in the same way
choose_sum : (m r : ℕ) → sum_below (suc (suc r)) (choose (suc m)) ≡ sum_below (suc (suc r)) (choose m) + sum_below (suc r) (choose m)
unfolding total choose
choose_sum m zero = omega arith
choose_sum m (suc r) = omega (arith, choose_sum m r)

choose-zero : (r : ℕ) → sum_below (suc r) (choose 0) ≡ 1
unfolding total choose
choose-zero zero = refl
choose-zero (suc r) = omega (arith, choose-zero r)

pub dimension-choose : (m r : ℕ) → dimension m r ≡ sum_below (suc r) (choose m)
unfolding dimension rank total ones choose
dimension-choose zero r = (ap (λ (t : Bool). 0 + indicator t) (leb-zero r) ∙ sym (choose-zero r))
dimension-choose (suc m) zero = dimension_constant m ∙ dimension-choose m zero
dimension-choose (suc m) (suc r) = dimension-suc m r ∙ ap₂ ◌+◌ (dimension-choose m (suc r)) (dimension-choose m r) ∙ sym (choose_sum m r)

-- a message is at most as long as a word
pub dimension_size : (m r : ℕ) → dimension m r ≤ 2 ^ m
unfolding dimension rank
dimension_size m r = omega (arith, sum_most (2 ^ m) 1 (λ B. indicator (leb (degree B) r)) (λ B l. omega (arith, indicator-lt (leb (degree B) r))))

pub dimension_most : (m r : ℕ) → m ≤ 10 → dimension m r ≤ 1024
dimension_most m r h = omega (arith, dimension_size m r, pow_mono h)

-- ---- binomials one after the other

choose_turn : (x y z k n : ℕ) → y * suc k + x * k ≡ x * n → z * suc (suc k) + y * suc k ≡ y * n → (y + z) * suc (suc k) + (x + y) * suc k ≡ (x + y) * suc n
choose_turn x y z k n e f =
    let e' = simp (mul-suc, add-mul) at e in
    let f' = simp (mul-suc, add-mul) at f in
    simp (mul-suc, add-mul) (omega arith)

choose-suc : (n k : ℕ) → choose n (suc k) * suc k + choose n k * k ≡ choose n k * n
unfolding choose
choose-suc zero zero = refl
choose-suc zero (suc k) = omega arith
choose-suc (suc n) zero = omega (arith, choose-suc n zero)
choose-suc (suc n) (suc k) = choose_turn (choose n k) (choose n (suc k)) (choose n (suc (suc k))) k n (choose-suc n k) (choose-suc n (suc k))

pub choose_next : (n k : ℕ) → k ≤ n → choose n k * (n - k) / (k + 1) ≡ choose n (k + 1)
choose_next n k l =
    let j : n - k + k ≡ n = omega arith in
    let e : choose n k * (n - k) ≡ choose n (suc k) * suc k = omega (arith, choose-suc n k, mul-add (choose n k) (n - k) k, ap (λ (x : ℕ). choose n k * x) j) in
    rw (e, add-one) (mul-div_cancel _ (omega arith))

choose-le : (n k : ℕ) → choose n k ≤ 2 ^ n
unfolding choose
choose-le zero zero = omega arith
choose-le zero (suc k) = omega arith
choose-le (suc n) zero = omega (arith, choose-le n zero)
choose-le (suc n) (suc k) = omega (arith, choose-le n k, choose-le n (suc k))

pub choose_small : (n k : ℕ) → n ≤ 10 → choose n k ≤ 1024
choose_small n k l = omega (arith, choose-le n k, pow-le-pow_right {n = 2} (omega arith) l)

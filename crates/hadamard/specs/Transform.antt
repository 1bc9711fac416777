-- The fast Hadamard transform: sums and differences by halves give the correlation of every mask. Assumes nothing.
use Rattle.std.specs.Prelude.{ℕ, suc, ◌+◌, ◌*◌, ◌%◌, ◌^◌, ◌≤◌, ◌<◌, ◌≡◌, refl, List, ℤ, pos, nat_abs, ◌-ℤ◌, length}
use Rattle.std.proofs.Common.{sym, ◌∙◌, zero-mul, add-mul, mul-add, mul-le-mul_left, mul-le-mul_right, arith, pow_mono, ext_get_or}
use Rattle.std.proofs.Math.Path.{ap, ap₂}
use Rattle.std.specs.Int.Bits.{bit_and, and_lt}
use Rattle.std.specs.Int.Count.{ones}
use Rattle.std.proofs.Math.IntN.{neg_ℤ, ◌+ℤ◌, +ℤ_idl}
use Rattle.area.specs.Area.{at}
use Rattle.area.specs.Numbers.{nat_abs-add, nat_abs_neg}
use Rattle.hadamard.specs.Correlation.{correlation, signed}
use Rattle.hadamard.specs.CorrelationLaws.{correlation-zero, signed_sum}
use Rattle.hadamard.specs.Summable.{Summable}
use Rattle.words.specs.Butterflies.{Entries, Rule, halved}
use Rattle.words.specs.ButterflyLaws.{ByHalves, halved-entry, length-halved}
use Rattle.words.specs.Sum.{tabulate, total}
use Rattle.words.specs.SumLaws.{get_or-tabulate, length-tabulate, sum_ℤ_ext, sum_ℤ_halves, sum_ℤ_neg}
use Rattle.words.specs.TopBit.{and_low_top, and_top_low, and_top_top, ones_top, pow_double}

-- j levels of sums of numbers of this size fit 32 bits
abbrev pub Small : ℕ → ℤ → Type 0
Small j x = nat_abs x * 2 ^ j < 2 ^ 31

-- a sum of two, of one level less
pub join_small : (j a b c : ℕ) → c ≤ a + b → a * 2 ^ suc j < 2 ^ 31 → b * 2 ^ suc j < 2 ^ 31 → c * 2 ^ j < 2 ^ 31
join_small j a b c l ha hb =
    let two : (a + b) * 2 ^ j + (a + b) * 2 ^ j ≡ a * 2 ^ suc j + b * 2 ^ suc j = rw (pow_double, add-mul, mul-add, mul-add) (omega arith) in
    omega (arith, mul-le-mul_right (2 ^ j) l)

-- sums and differences
unfoldable pub sums : Rule ℤ
sums = record {
  none = pos 0;
  low = ◌+ℤ◌;
  high = ◌-ℤ◌;
  Room = Small;
  room_none = λ j. omega (arith, zero-mul (2 ^ j));
  room_low = λ j x y hx hy. join_small j (nat_abs x) (nat_abs y) (nat_abs (x +ℤ y)) (nat_abs-add x y) hx hy;
  room_high = λ j x y hx hy. join_small j (nat_abs x) (nat_abs y) (nat_abs (x -ℤ y)) (omega (arith, nat_abs-add x (neg_ℤ y), nat_abs_neg y)) hx hy;
  room_less = λ j k x l h. omega (arith, mul-le-mul_left (nat_abs x) (pow_mono l));
}

-- ---- correlations by halves

module _ (m : ℕ) (v : ℕ → ℤ) (u : ℕ) (h : u < 2 ^ m) where
  pub correlation_low : correlation (suc m) v u ≡ correlation m v u +ℤ correlation m (λ p. v (2 ^ m + p)) u
  unfolding correlation
  correlation_low =
      sum_ℤ_halves m (λ p. signed (ones (bit_and u p) % 2) (v p))
      ∙ ap (λ (z : ℤ). correlation m v u +ℤ z) (sum_ℤ_ext (2 ^ m) _ _ (λ p l. ap (λ (i : ℕ). signed (ones i % 2) (v (2 ^ m + p))) (and_low_top m u p h l)))

  pub correlation_top : correlation (suc m) v (2 ^ m + u) ≡ correlation m v u -ℤ correlation m (λ p. v (2 ^ m + p)) u
  unfolding correlation
  correlation_top =
      sum_ℤ_halves m (λ p. signed (ones (bit_and (2 ^ m + u) p) % 2) (v p))
      ∙ ap₂ ◌+ℤ◌
      (sum_ℤ_ext (2 ^ m) _ _ (λ p l. ap (λ (i : ℕ). signed (ones i % 2) (v p)) (and_top_low m u p h l)))
      (sum_ℤ_ext (2 ^ m) _ (λ p. neg_ℤ (signed (ones (bit_and u p) % 2) (v (2 ^ m + p))))
      (λ p l. ap (λ (i : ℕ). signed (i % 2) (v (2 ^ m + p))) (ap ones (and_top_top m u p h l) ∙ ones_top m (bit_and u p) (and_lt m u p h l))
      ∙ signed_sum 1 (ones (bit_and u p)) (suc (ones (bit_and u p))) (v (2 ^ m + p)) (omega arith))
      ∙ sum_ℤ_neg (2 ^ m) (λ p. signed (ones (bit_and u p) % 2) (v (2 ^ m + p))))

correlation_by_halves : ByHalves sums (λ x. x) correlation
unfolding sums total
correlation_by_halves = record {
  start = λ x f e. e ∙ sym (correlation-zero 0 f ∙ +ℤ_idl (f 0));
  low = λ m f u h x y ex ey. ap₂ ◌+ℤ◌ ex ey ∙ sym (correlation_low m f u h);
  high = λ m f u h x y ex ey. ap₂ ◌-ℤ◌ ex ey ∙ sym (correlation_top m f u h);
}

-- ---- what the code takes and gives

pub summable_entries : {m : ℕ} {a : List ℤ} → Summable m a → Entries sums (2 ^ m) m a
unfolding sums
summable_entries s = record { size = s.size; room = record { each = s.small } }

pub halved-correlation : (m : ℕ) (a : List ℤ) → length a ≡ 2 ^ m → halved sums m a ≡ tabulate (2 ^ m) (correlation m (at a))
unfolding sums
halved-correlation m a e =
    let n : length (halved sums m a) ≡ 2 ^ m = length-halved sums m a e in
    ext_get_or (pos 0) (halved sums m a) (tabulate (2 ^ m) (correlation m (at a))) (n ∙ sym (length-tabulate (2 ^ m) _))
    (λ u l.
    let g : u < 2 ^ m = omega arith in
    halved-entry sums correlation_by_halves m a (at a) e (λ p h. refl) u g ∙ sym (get_or-tabulate (2 ^ m) _ (pos 0) u g))

-- The quads of a block's correlations give the correlations of the block. Assumes nothing.
use Rattle.std.specs.Prelude.{ℕ, suc, ◌+◌, ◌*◌, ◌/◌, ◌^◌, ◌≤◌, ◌<◌, ◌≡◌, List, ℤ, pos, nat_abs, length, Option}
use Rattle.std.proofs.Common.{sym, ap, subst, ◌∙◌, arith, pow_mono, pow_pos}
use Rattle.words.specs.Sum.{tabulate}
use Rattle.words.specs.SumLaws.{length-tabulate, get_or-tabulate}
use Rattle.words.specs.Word.{IsWord, bit}
use Rattle.area.specs.Area.{at}
use Rattle.hadamard.specs.Correlation.{values, correlation}
use Rattle.hadamard.specs.CorrelationLaws.{sign_size}
use Rattle.peaks.specs.declared.Peak.{Peak}
use Rattle.peaks.specs.Peaks.{IsPeak}
use Rattle.peaks.specs.Packing.{correlation_size}
use Rattle.peaks.specs.SamePeak.{peak_ext}
use Rattle.quads.specs.QuadLaws.{correlation-quad, Numbers, numbers}
use Rattle.byte_quads.specs.ByteQuads.{quad_at}
use Rattle.order_one.specs.OrderOne.{PeakOf}
use Rattle.hadamard.specs.LowDigits.{correlation_digits}
use Rattle.hadamard.specs.Spread.{correlations_spread}
use Rattle.block_peak.specs.Sought.{value_at, Sought}

-- xs are the correlations of the quads of the word w, of exponent k + 2
pub record BlockQuads (k : ℕ) (w : List ℕ) (xs : List ℤ) : Type 0 where
  pub few : k ≤ 5
  pub word : IsWord (suc (suc k)) w
  pub quads : xs ≡ tabulate (2 ^ k) (correlation k (quad_at w))

module _ {k : ℕ} {w : List ℕ} {xs : List ℤ} (t : BlockQuads k w xs) where
  small : 2 ^ k ≤ 32
  small = pow_mono {j = 5} t.few

  long : length xs ≡ 2 ^ k
  long = ap length t.quads ∙ length-tabulate (2 ^ k) _

  -- the values at the places 4 i + d
  abbrev part : (ℕ → ℕ) → ℕ → ℤ
  part d i = values w (d (4 * i))

  part_size : (d : ℕ → ℕ) (v : ℕ) → nat_abs (correlation k (part d) v) ≤ 32
  part_size d v = omega (arith, correlation_size k (part d) v (λ i l. omega (arith, sign_size (bit w (d (4 * i))))), small)

  -- the four numbers of a quad
  numbers_at :
      (v : ℕ) → v < 2 ^ k
      → Numbers
      (correlation k (part (λ p. p)) v)
      (correlation k (part (λ p. p + 1)) v)
      (correlation k (part (λ p. p + 2)) v)
      (correlation k (part (λ p. p + 3)) v)
      (at xs v)
  numbers_at v l =
      numbers
      (ap (λ (ys : List ℤ). at ys v) t.quads ∙ get_or-tabulate (2 ^ k) _ (pos 0) v l
      ∙ correlation-quad k (part (λ p. p)) (part (λ p. p + 1)) (part (λ p. p + 2)) (part (λ p. p + 3)) v)
      (part_size (λ p. p) v)
      (part_size (λ p. p + 1) v)
      (part_size (λ p. p + 2) v)
      (part_size (λ p. p + 3) v)

  value_is : (u : ℕ) → u < 2 ^ suc (suc k) → value_at xs u ≡ correlation (suc (suc k)) (values w) u
  value_is u l =
      let n = numbers_at (u / 4) (omega arith) in
      rw (n.first, n.second, n.third, n.fourth) (sym (correlation_digits k (values w) u l))

  module _ (h : ℕ) (eh : h ≡ 2 ^ k + 2 ^ k) where
    whole : h + h ≡ 2 ^ suc (suc k)
    whole = omega arith

    pub block_sought : Sought h xs
    block_sought = record {
      some = omega (arith, long, pow_pos k);
      pairs = omega (arith, long);
      all = record { few = omega (arith, long, small); each = λ v l. (numbers_at v (omega (arith, long))).bounded };
      spread = λ u v lu lv ne.
          let hu : u < 2 ^ suc (suc k) = omega (arith, whole) in
          let hv : v < 2 ^ suc (suc k) = omega (arith, whole) in
          omega (arith, whole, ap nat_abs (value_is u hu), ap nat_abs (value_is v hv), correlations_spread t.word u v hu hv ne);
    }

    -- the peak of the values is the block's
    pub block_peak : {o : Option Peak} → IsPeak (h + h) (value_at xs) o → PeakOf (suc (suc k)) w o
    block_peak {o} s = record {
      word = t.word;
      peak = peak_ext (subst (λ (n : ℕ). IsPeak n (value_at xs) o) whole s) value_is;
    }

-- The peak of values whose halves are transformed, each in its place. Assumes nothing.
use Rattle.std.specs.Prelude.{ℕ, suc, ◌+◌, ◌-◌, ◌^◌, ◌≤◌, ◌<◌, ◌≡◌, List, ℤ, pos, nat_abs, length, drop, Option}
use Rattle.std.proofs.Common.{sym, ap, ◌∙◌, subst, mul-le-mul, arith, pow_mono, pow_pos, get_or-drop}
use Rattle.std.proofs.Math.Decide.{dec_lt}
use Rattle.std.proofs.Math.ListN.{get_or-eq_default}
use Rattle.area.specs.Area.{at}
use Rattle.correlations.specs.Halves.{HalvesDone}
use Rattle.hadamard.specs.Correlation.{correlation}
use Rattle.hadamard.specs.CorrelationLaws.{correlation_ext}
use Rattle.hadamard.specs.Summable.{Summable}
use Rattle.peaks.specs.declared.Peak.{Peak}
use Rattle.peaks.specs.Peaks.{IsPeak, Pairs, pairs_joined}
use Rattle.peaks.specs.Joined.{joined_whole}
use Rattle.peaks.specs.SamePeak.{peak_ext}
use Rattle.confidences.specs.Confidences.{greatest}
use Rattle.confidences.specs.InRange.{InRange}
use Rattle.confidences.proofs.Range.{correlation_small}

-- the values xs of exponent k + 1, with halves of h numbers
pub record Halves (k h : ℕ) (xs : List ℤ) : Type 0 where
  pub few : k ≤ 9
  pub half : h ≡ 2 ^ k
  pub size : length xs ≡ h + h
  pub small : (p : ℕ) → p < h + h → nat_abs (at xs p) ≤ greatest

module _ {k h : ℕ} {xs : List ℤ} (a : Halves k h xs) where
  in_range : InRange xs
  in_range = record {
    small = λ p. elim (dec_lt p (h + h)) [
      | yes l ↦ a.small p l
      | no m ↦ omega (arith, ap nat_abs (get_or-eq_default xs (pos 0) {n = p} (omega (arith, a.size))))
    ];
  }

  pub values_summable : Summable (suc k) xs
  values_summable =
      let few : suc k ≤ 10 = omega (arith, a.few) in
      record { size = omega (arith, a.size, a.half); small = λ p. omega (arith, mul-le-mul (in_range.small p) (pow_mono few)) }

  -- the values of the second half
  abbrev high : List ℤ
  high = drop (2 ^ k) xs

  high-at : (p : ℕ) → at high p ≡ at xs (2 ^ k + p)
  high-at p = get_or-drop (2 ^ k) xs p (pos 0)

  high_range : InRange high
  high_range = record { small = λ p. rw (high-at p) (in_range.small (2 ^ k + p)) }

  -- they are transformed to ys
  module _ {ys : List ℤ} (d : HalvesDone k xs ys) where
    first_at : (u : ℕ) → u < h → at ys u ≡ correlation k (at xs) u
    first_at u l = d.first u (omega (arith, a.half))

    second_at : (u : ℕ) → u < h → at ys (h + u) ≡ correlation k (λ p. at xs (2 ^ k + p)) u
    second_at u l = ap (λ (b : ℕ). at ys (b + u)) a.half ∙ d.second u (omega (arith, a.half))

    high_small : (u : ℕ) → u < h → nat_abs (at ys (h + u)) < 2 ^ 20
    high_small u l =
        rw (second_at u l ∙ sym (correlation_ext k (at high) (λ p. at xs (2 ^ k + p)) (λ p b. high-at p) u))
        (correlation_small high high_range k u a.few)

    pub back_pairs : Pairs h ys
    back_pairs = record {
      some = omega (arith, a.half, pow_pos k);
      few = omega (arith, a.half, pow_mono {i = k} {j = 9} a.few);
      size = d.long ∙ a.size;
      small = λ u l. elim (dec_lt u h) [
        | yes b ↦ rw (first_at u b) (correlation_small xs in_range k u a.few)
        | no b ↦ subst (λ (q : ℕ). nat_abs (at ys q) < 2 ^ 20) (back_to u b) (high_small (u - h) (omega arith))
      ];
    }
      where
        back_to : (u : ℕ) → (u < h → ⊥) → h + (u - h) ≡ u
        back_to u b = omega arith

    -- the peak of the pairs is that of the values
    pub back_peak : {o : Option Peak} → IsPeak (h + h) (pairs_joined h ys) o → IsPeak (2 ^ suc k) (correlation (suc k) (at xs)) o
    back_peak {o} s =
        subst (λ (r : ℕ). IsPeak r (correlation (suc k) (at xs)) o) (omega (arith, a.half))
        (peak_ext s (joined_whole k h (at xs) _ _ a.half first_at second_at))

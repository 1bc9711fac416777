-- Correlations from those of the halves: their sums, then their differences. Assumes nothing.
use Rattle.std.specs.Prelude.{ℕ, suc, ◌+◌, ◌-◌, ◌^◌, ◌<◌, ◌≡◌, ℤ, ◌+ℤ◌, ◌-ℤ◌}
use Rattle.std.proofs.Common.{sym, ap, ap₂, ◌∙◌, arith, lt-ltb, le-ltb}
use Rattle.std.proofs.Math.Decide.{dec_lt}
use Rattle.hadamard.specs.Correlation.{correlation}
use Rattle.hadamard.specs.Transform.{correlation_low, correlation_top}
use Rattle.peaks.specs.Peaks.{joined}

-- x and y are the correlations of the halves
pub joined_whole :
    (k h : ℕ) (v x y : ℕ → ℤ) → h ≡ 2 ^ k → ((u : ℕ) → u < h → x u ≡ correlation k v u)
    → ((u : ℕ) → u < h → y u ≡ correlation k (λ p. v (2 ^ k + p)) u) → (u : ℕ) → u < h + h → joined h x y u ≡ correlation (suc k) v u
joined_whole k h v x y e ex ey u l = elim (dec_lt u h) [
  | yes low ↦ rw (lt-ltb u h low) (ap₂ ◌+ℤ◌ (ex u low) (ey u low) ∙ sym (correlation_low k v u (omega arith)))
  | no top ↦
      let back : 2 ^ k + (u - h) ≡ u = omega arith in
      rw (le-ltb u h (omega arith))
      (ap₂ ◌-ℤ◌ (ex (u - h) (omega arith)) (ey (u - h) (omega arith)) ∙ sym (correlation_top k v (u - h) (omega arith))
      ∙ ap (correlation (suc k) v) back)
]

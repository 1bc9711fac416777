-- Values that agree below n have the same peak. Assumes nothing.
use Rattle.std.specs.Prelude.{ℕ, ◌<◌, max, ◌≡◌, eqb, ℤ, pos, nat_abs, Option, Some, None}
use Rattle.std.proofs.Common.{ap, ◌∙◌}
use Rattle.words.specs.Sum.{greatest_below}
use Rattle.words.specs.SumLaws.{total_ext}
use Rattle.hadamard.specs.Correlation.{constant_of, count_below, first_below}
use Rattle.hadamard.specs.PeakExt.{count_ext, first_ext}
use Rattle.peaks.specs.declared.Peak.{Peak}
use Rattle.peaks.specs.Peaks.{IsPeak}
use Rattle.peaks.specs.Found.{peak_below}

module _ {n : ℕ} {c d : ℕ → ℤ} (h : (u : ℕ) → u < n → c u ≡ d u) where
  abbrev f : ℕ → ℕ
  f u = nat_abs (c u)

  abbrev g : ℕ → ℕ
  g u = nat_abs (d u)

  same : (u : ℕ) → u < n → f u ≡ g u
  same u l = ap nat_abs (h u l)

  most : greatest_below n f ≡ greatest_below n g
  most = total_ext max 0 n f g same

  count_same : count_below n f (greatest_below n f) ≡ count_below n g (greatest_below n g)
  count_same = ap (count_below n f) most ∙ count_ext n f g (greatest_below n g) same

  first_same : first_below n f (greatest_below n f) ≡ first_below n g (greatest_below n g)
  first_same = ap (first_below n f) most ∙ first_ext n f g (greatest_below n g) same

  pub peak_same : (o : Option Peak) → IsPeak n c o → IsPeak n d o
  peak_same None k = record { alone = k.alone ∙ ap (λ (x : ℕ). eqb x 1) count_same; mask = tt; constant = tt }
  peak_same (Some p) k = record {
    alone = k.alone ∙ ap (λ (x : ℕ). eqb x 1) count_same;
    mask = k.mask ∙ first_same;
    constant = k.constant ∙ ap (λ (z : ℤ). pos (constant_of z)) (h p.mask (peak_below k));
  }

pub peak_ext : {n : ℕ} {c d : ℕ → ℤ} {o : Option Peak} → IsPeak n c o → ((u : ℕ) → u < n → c u ≡ d u) → IsPeak n d o
peak_ext {o = o} k h = peak_same h o k

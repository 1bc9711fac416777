-- The reading at order 1 from the peak of the correlations. Assumes nothing.
use Rattle.std.specs.Prelude.{ℕ, ◌^◌, ◌≡◌, List, ℤ, Option, Some, None}
use Rattle.std.proofs.Math.Path.{refl}
use Rattle.std.proofs.Common.{sym, subst}
use Rattle.words.specs.Word.{IsWord}
use Rattle.area.specs.Area.{IsBit}
use Rattle.area.proofs.AreaLaws.{is_bit}
use Rattle.hadamard.specs.Correlation.{values, correlation, affine, constant_of}
use Rattle.hadamard.specs.CorrelationLaws.{constant_of-lt}
use Rattle.peaks.specs.declared.Peak.{Peak}
use Rattle.peaks.specs.Peaks.{IsPeak}
use Rattle.rule.specs.Reading.{accepted, refused, order1}

-- ---- o is the peak of the values v

module _ (m : ℕ) (v : ℕ → ℤ) where
  pub peak_tie : IsPeak (2 ^ m) (correlation m v) None → order1 m v ≡ refused 9 0 1
  unfolding order1
  peak_tie k = rw (sym k.alone) refl

  module _ {p : Peak} (k : IsPeak (2 ^ m) (correlation m v) (Some p)) where
    -- the nearer codeword of its mask
    pub peak_nearest : order1 m v ≡ accepted (affine m p.mask (constant_of (correlation m v p.mask))) 0 1
    unfolding order1
    peak_nearest = rw (sym k.alone, k.mask) refl

    pub peak_bit : IsBit p.constant
    peak_bit = subst IsBit (sym k.constant) (is_bit _ (constant_of-lt (correlation m v p.mask)))

-- ---- of those of a word

-- o is the peak of the word w
pub record PeakOf (m : ℕ) (w : List ℕ) (o : Option Peak) : Type 0 where
  pub word : IsWord m w
  pub peak : IsPeak (2 ^ m) (correlation m (values w)) o

abbrev pub nearest : ℕ → List ℕ → Peak → List ℕ
nearest m w p = affine m p.mask (constant_of (correlation m (values w) p.mask))

module _ {m : ℕ} {w : List ℕ} where
  pub order1_tie : PeakOf m w None → order1 m (values w) ≡ refused 9 0 1
  order1_tie k = peak_tie m (values w) k.peak

  module _ {p : Peak} (k : PeakOf m w (Some p)) where
    pub order1-nearest : order1 m (values w) ≡ accepted (nearest m w p) 0 1
    order1-nearest = peak_nearest m (values w) k.peak

    pub constant_bit : IsBit p.constant
    constant_bit = peak_bit m (values w) k.peak

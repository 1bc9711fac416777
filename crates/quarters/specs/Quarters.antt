-- The correlations that are searched: those of the halves, from those of the quarters. Assumes nothing.
use Rattle.std.specs.Prelude.{ℕ, List, ℤ}
use Rattle.area.specs.Area.{at}
use Rattle.peaks.specs.Peaks.{joined}
use Rattle.quads.specs.Quads.{number_of}

abbrev pub firsts : ℕ → List ℤ → ℕ → ℤ
firsts q xs = joined q (λ j. number_of 1 (at xs j)) (λ j. number_of 256 (at xs j))

abbrev pub lasts : ℕ → List ℤ → ℕ → ℤ
lasts q xs = joined q (λ j. number_of 65536 (at xs j)) (λ j. number_of 16777216 (at xs j))

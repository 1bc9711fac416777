-- Functions that agree below n have the same counts and the same first places there. Assumes nothing.
use Rattle.std.specs.Prelude.{ℕ, ◌<◌, ◌≡◌, eqb}
use Rattle.std.proofs.Common.{ap}
use Rattle.words.specs.Search.{where_ext}
use Rattle.words.specs.SumLaws.{sum_ext}
use Rattle.words.specs.Word.{indicator}
use Rattle.hadamard.specs.Correlation.{count_below, first_below}

pub count_ext : (n : ℕ) (f g : ℕ → ℕ) (x : ℕ) → ((u : ℕ) → u < n → f u ≡ g u) → count_below n f x ≡ count_below n g x
unfolding count_below
count_ext n f g x h = sum_ext n _ _ (λ u l. ap (λ (y : ℕ). indicator (eqb y x)) (h u l))

pub first_ext : (n : ℕ) (f g : ℕ → ℕ) (x : ℕ) → ((u : ℕ) → u < n → f u ≡ g u) → first_below n f x ≡ first_below n g x
first_ext n f g x h = where_ext n _ _ (λ u l. ap (λ (y : ℕ). eqb y x) (h u l))

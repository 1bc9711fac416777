-- What a round's flips promise. Assumes nothing.
use Rattle.std.specs.Prelude.{ℕ, ◌+◌, ◌-◌, List, ℤ, nat_abs}
use Rattle.words.specs.Word.{indicator}
use Rattle.area.specs.Area.{at}
use Rattle.rule.specs.Reading.{flipped}

-- 1 where the votes after the word of n places flip place p, a directions abstaining
abbrev pub flip_of : ℕ → ℕ → List ℤ → ℕ → ℕ
flip_of n a xs p = indicator (flipped (nat_abs (at xs (n + p))) (n - 1) a)

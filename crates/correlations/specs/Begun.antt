-- A transform of which the blocks of some size are done: what the levels after them ask, and what they lead to. Assumes nothing.
use Rattle.std.specs.Prelude.{ℕ, ◌+◌, ◌^◌, ◌≤◌, ◌<◌, ◌≡◌, List, ℤ, length}
use Rattle.std.proofs.Common.{◌∙◌, ⊎_elim, arith, pow_mono}
use Rattle.area.specs.Area.{at}
use Rattle.words.specs.Butterflies.{BlocksDone, halved}
use Rattle.words.specs.Levels.{Transformed, transformed_all, transformed_blocks, transformed_length}
use Rattle.words.specs.Sum.{tabulate}
use Rattle.words.specs.SumLaws.{le_or_lt}
use Rattle.hadamard.specs.Correlation.{correlation}
use Rattle.hadamard.specs.Summable.{Summable}
use Rattle.hadamard.specs.Transform.{sums, summable_entries, halved-correlation}

-- each block of h of the numbers x is transformed in a
pub record Blockwise (h m : ℕ) (x a : List ℤ) : Type 0 where
  pub summable : Summable m x
  pub transformed : Transformed sums m h x a

-- blocks of 4 are begun
pub fours_begun : {m : ℕ} {x a : List ℤ} → Summable m x → 2 ≤ m → BlocksDone (halved sums 2) 4 (length x) x a → Blockwise 4 m x a
fours_begun s l d = record { summable = s; transformed = transformed_blocks sums (summable_entries s) 2 l d }

-- of some numbers
pub record Begun (h : ℕ) (a : List ℤ) : Type 0 where
  pub exponent : ℕ
  pub from : List ℤ
  pub done : Blockwise h exponent from a

-- the levels from the blocks of `first` numbers lead to those of `end`
pub record End (first end : ℕ) (a : List ℤ) : Type 0 where
  pub exponent : ℕ
  pub power : end ≡ 2 ^ exponent
  pub after : first ≤ end
  pub within : end ≤ length a

-- from one power of two to another
pub end_at : {h : ℕ} {a : List ℤ} (i j : ℕ) → h ≡ 2 ^ j → i ≤ j → h ≤ length a → End (2 ^ i) h a
end_at i j e l n = record { exponent = j; power = e; after = omega (arith, pow_mono l); within = n }

-- a level does not pass the end
pub level_within : {h m first end : ℕ} {x a b : List ℤ} → Transformed sums m h x a → End first end b → h < end → h + h ≤ end
level_within t e l =
    ⊎_elim
    (λ (g : e.exponent ≤ t.exponent). absurd (omega (arith, pow_mono g, t.height, e.power)))
    (λ (g : t.exponent < e.exponent). omega (arith, pow_mono g, t.height, e.power))
    (le_or_lt e.exponent t.exponent)

pub blockwise_length : {h m : ℕ} {x a : List ℤ} → Blockwise h m x a → length a ≡ 2 ^ m
blockwise_length b = transformed_length sums (summable_entries b.summable) b.transformed

-- one block is the whole
pub blockwise_all : {n m : ℕ} {x a : List ℤ} → Blockwise n m x a → length a ≤ n → a ≡ tabulate (2 ^ m) (correlation m (at x))
blockwise_all {m = m} {x = x} b l =
    transformed_all sums (summable_entries b.summable) b.transformed l ∙ halved-correlation m x b.summable.size

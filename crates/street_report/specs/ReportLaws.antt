-- Laws of a street's report: counting step by step gives the counts of the list of steps, and how long a number is. Assumes nothing.
use Rattle.std.specs.Prelude.{ℕ, suc, ◌+◌, ◌^◌, ◌≤◌, ◌<◌, ◌≡◌, refl, List, [], ◌∷◌, length}
use Rattle.std.proofs.Common.{lt_of_lt_of_le, arith, lit≤}
use Rattle.text.specs.Numbers.{decimal}
use Rattle.text.specs.TextLaws.{decimal-length}
use Rattle.turns.specs.Turns.{capped}
use Rattle.streets.specs.Street.{Answered, Step, count_steps, other, refusal, right}
use Rattle.street_report.specs.declared.Counts.{Counts}
use Rattle.street_report.specs.Report.{counts_of, no_counts, plus_step}

-- a number of 64 bits
pub number_length : (n : ℕ) → n < 2 ^ 64 → length (decimal n) ≤ 20
number_length n h = decimal-length 19 n (lt_of_lt_of_le h (lit≤ tt))

pub counts_none : (retries : ℕ) → counts_of retries [] ≡ no_counts
unfolding count_steps
counts_none retries = refl

-- one more, or none
capped-suc : (n : ℕ) → capped (suc n) ≡ capped (capped n + 1)
capped-suc n = omega arith

capped_some : (n k : ℕ) → capped (k + n) ≡ capped (capped n + k)
capped_some n k = omega arith

capped_none : (n : ℕ) → capped (0 + n) ≡ capped n
capped_none n = omega arith

same_counts : {a b c d e a' b' c' d' e' : ℕ} → a ≡ a' → b ≡ b' → c ≡ c' → d ≡ d' → e ≡ e'
    → ◌≡◌ {A = Counts} (record { sent = a; right = b; other = c; refused = d; never = e }) (record { sent = a'; right = b'; other = c'; refused = d'; never = e' })
same_counts h i j k l = rw (h, i, j, k, l)

-- "each of the four is defined from the list of steps": so are the counts that are printed, and counting step by step gives them
pub counts_more : (retries : ℕ) (s : Step) (l : List Step) → counts_of retries (s ∷ l) ≡ plus_step retries (counts_of retries l) s.try s.answer
unfolding count_steps
counts_more retries s l = go s.answer refl
  where
    go : (a : Answered) → s.answer ≡ a → counts_of retries (s ∷ l) ≡ plus_step retries (counts_of retries l) s.try a
    go right e = rw e (same_counts (capped-suc _) (capped_some _ 1) (capped_none _) (capped_none _) (capped_none _))
    go other e = rw e (same_counts (capped-suc _) (capped_none _) (capped_some _ 1) (capped_none _) (capped_none _))
    go (refusal n) e = rw e (same_counts (capped-suc _) (capped_none _) (capped_none _) (capped_some _ 1) (capped_some _ _))

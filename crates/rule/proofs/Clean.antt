-- A codeword is read as itself: no direction votes to flip, so that the first round settles. Assumes nothing.
use Prim.Native.Nat.{ℕ, zero, suc, ◌-◌, ◌*◌, ◌^◌, ◌≤◌, ◌<◌}
use Rattle.std.specs.Prelude.{◌≡◌, true, List}
use Rattle.std.proofs.Common.{sym, ◌∙◌, one-mul, arith}
use Rattle.std.proofs.Math.Path.{ap, ap₂}
use borrow.Author.Tests.{eq-eqb, le-ltb}
use Rattle.words.specs.SumLaws.{bit_tabulate, sum_same, sum_zero, true_all}
use Rattle.words.specs.Word.{bit, indicator}
use Rattle.code.specs.Code.{IsCodeword}
use Rattle.code.proofs.Codewords.{test_of_codeword}
use Rattle.direction.specs.Direction.{project}
use Rattle.direction.proofs.Projected.{project_codeword}
use Rattle.rule.specs.Counts.{most_leaves, clean_rounds}
use Rattle.rule.proofs.Nearest.{itself, nearest_accepted, order0_judged, order1_codeword}
use Rattle.rule.specs.Reading.{Outcome, abstained, abstains, accepted, flipped, flips, leaves_of, reading, round_leaves, rounds, vote, votes}
use Rattle.rule.proofs.Rounds.{rounds_step, still}

-- one round at exponent m + 1, where the reading one order lower reads codewords as themselves, each with `each` leaves
module _ (m r k each : ℕ) (hm : m < 32) (lower : List ℕ → Outcome) (same : (v : List ℕ) → IsCodeword m r v → lower v ≡ accepted v k each)
    (c : List ℕ) (hc : IsCodeword (suc m) (suc r) c) where
  direction : (i : ℕ) → i < 2 ^ suc m - 1 → lower (project m (suc i) c) ≡ accepted (project m (suc i) c) k each
  direction i l = same (project m (suc i) c) (project_codeword m r (suc i) c hm (omega arith) (omega arith) hc)

  none_votes : (p : ℕ) → votes m lower c p ≡ 0
  unfolding votes
  none_votes p = sum_zero (2 ^ suc m - 1) _ (λ i l. ap (λ (o : Outcome). vote (suc i) (project m (suc i) c) o p) (direction i l) ∙ omega arith)

  none_abstains : abstained m lower c ≡ 0
  unfolding abstained
  none_abstains = sum_zero (2 ^ suc m - 1) _ (λ i l. ap abstains (direction i l))

  settles : still m lower c ≡ true
  unfolding flips flipped
  settles =
      true_all (2 ^ suc m) _
      (λ p l. eq-eqb (bit (flips m lower c) p) 0
      (bit_tabulate (2 ^ suc m) _ p l
      ∙ ap₂ (λ (v a : ℕ). indicator (flipped v (2 ^ suc m - 1) a)) (none_votes p) none_abstains
      ∙ ap indicator (le-ltb (2 ^ suc m - 1 - 0) 0 (omega arith))))

  leaves_all : round_leaves m lower c ≡ (2 ^ suc m - 1) * each
  unfolding round_leaves
  leaves_all = sum_same (2 ^ suc m - 1) each _ (λ i l. ap leaves_of (direction i l))

  rounds_clean : (left : ℕ) → rounds m lower (suc r) (suc left) 0 0 c ≡ accepted c 1 ((2 ^ suc m - 1) * each)
  rounds_clean left = rounds_step m lower (suc r) left 0 0 c ∙ rw (settles, test_of_codeword (suc m) (suc r) c hc) (ap (accepted c 1) (omega (arith, leaves_all)))

-- its leaf count is that of one round at every depth
pub reading_clean : (r m limit : ℕ) → 1 ≤ m → r ≤ m → m ≤ 32 → 1 ≤ limit → (c : List ℕ) → IsCodeword m r c
    → reading r m limit c ≡ accepted c (clean_rounds r) (most_leaves r m 1)
unfolding reading most_leaves
reading_clean zero m limit some h hm one c hc = nearest_accepted (order0_judged hc.word) (itself h hc)
reading_clean (suc zero) m limit some h hm one c hc = order1_codeword some hc
reading_clean (suc (suc r)) zero limit some h hm one c hc = absurd (omega arith)
reading_clean (suc (suc r)) (suc m) zero some h hm one c hc = absurd (omega arith)
reading_clean (suc (suc r)) (suc m) (suc left) some h hm one c hc =
    rounds_clean m (suc r) (clean_rounds (suc r)) (most_leaves (suc r) m 1) (omega arith) (reading (suc r) m (suc left))
    (λ v hv. reading_clean (suc r) m (suc left) (omega arith) (omega arith) (omega arith) (omega arith) v hv) c hc left
    ∙ ap (accepted c 1) (sym (one-mul _))

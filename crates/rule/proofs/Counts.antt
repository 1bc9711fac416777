-- The number, the rounds and the leaf count of a reading. Assumes nothing.
use Prim.Native.Nat.{ℕ, zero, suc, pred, ◌+◌, ◌-◌, ◌*◌, ◌^◌, ◌≤◌}
use Rattle.std.specs.Prelude.{◌≡◌, refl, Bool, true, false, cond, List, eqb, ℤ, pos, negsuc, nat_abs}
use Rattle.std.proofs.Common.{inl, inr, ⊎_elim, le_trans, le_refl, zero-add, arith}
use Rattle.rule.specs.Reading.{Outcome, accepted, by_sum, flips, leaves_of, order0, order1, reading, refused, round_leaves, rounds}
use Rattle.rule.proofs.Rounds.{round_cases, rounds_none}
use Rattle.direction.specs.Direction.{project}
use Rattle.hadamard.specs.Correlation.{correlation, count_below, values}
use Rattle.words.specs.Sum.{greatest_below, sum_below_ℤ}
use Rattle.words.specs.SumLaws.{sum_most}
use Rattle.words.specs.Word.{add_words}
use Rattle.rule.specs.Counts.{most_leaves, Leaf, Rounds, ByNoise}

-- ---- numbers and rounds

pub order0_leaf : (m : ℕ) (v : ℕ → ℤ) → Leaf 0 (order0 m v)
unfolding order0
order0_leaf m v = go (sum_below_ℤ (2 ^ m) v)
  where
    go : (z : ℤ) → Leaf 0 (by_sum m z)
    go (pos zero) = (refl, (refl, refl))
    go (pos (suc k)) = (refl, refl)
    go (negsuc k) = (refl, refl)

pub order1_leaf : (m : ℕ) (v : ℕ → ℤ) → Leaf 1 (order1 m v)
unfolding order1
order1_leaf m v =
    let size : ℕ → ℕ = λ u. nat_abs (correlation m v u) in
    go (eqb (count_below (2 ^ m) size (greatest_below (2 ^ m) size)) 1) _ (order1 m v) refl
  where
    go : (t : Bool) (d : List ℕ) (o : Outcome) → o ≡ cond t (accepted d 0 1) (refused 9 0 1) → Leaf 1 o
    go true d o e = rw e (refl, refl)
    go false d o e = rw e (refl, (refl, refl))

-- orders 0 and 1
pub reading_leaf : (r m limit : ℕ) (w : List ℕ) → r ≤ 1 → Leaf r (reading r m limit w)
unfolding reading
reading_leaf zero m limit w h = order0_leaf m (values w)
reading_leaf (suc zero) m limit w h = order1_leaf m (values w)
reading_leaf (suc (suc r)) m limit w h = absurd (omega arith)

wider : (j i i' : ℕ) (o : Outcome) → i ≡ i' → Rounds (suc j) i o → Rounds j i' o
wider j i i' (accepted d k l) e h = (omega arith, omega arith)
wider j i i' (refused n k l) e h = ⊎_elim (λ a. inl (a.0, omega arith)) (λ b. inr (b.0, (omega arith, omega arith))) h

module _ (m : ℕ) (lower : List ℕ → Outcome) (r : ℕ) where
  rounds_count : (left k l : ℕ) (w : List ℕ) → Rounds k (k + left) (rounds m lower r left k l w)
  rounds_count zero k l w = rw (rounds_none m lower r k l w) (inl (refl, omega arith))
  rounds_count (suc left) k l w =
      round_cases m lower r left k l w (Rounds k (k + suc left))
      (λ e. (omega arith, omega arith))
      (inr (refl, (omega arith, omega arith)))
      (wider k (suc k + left) (k + suc left) (rounds m lower r left (suc k) (l + round_leaves m lower w) (add_words w (flips m lower w)))
      (omega arith) (rounds_count left (suc k) (l + round_leaves m lower w) (add_words w (flips m lower w))))

-- order 2 and above
pub reading_rounds : (r m limit : ℕ) (w : List ℕ) → 2 ≤ r → Rounds 0 limit (reading r m limit w)
unfolding reading
reading_rounds zero m limit w h = absurd (omega arith)
reading_rounds (suc zero) m limit w h = absurd (omega arith)
reading_rounds (suc (suc r)) m limit w h =
    rw zero-add at (rounds_count (pred m) (reading (suc r) (pred m) limit) (suc (suc r)) limit 0 0 w)

leaf_noise : (r : ℕ) (o : Outcome) → Leaf r o → ByNoise o
leaf_noise r (accepted d k l) h = tt
leaf_noise r (refused e k l) h = (omega arith, omega arith)

rounds_noise : (j i : ℕ) (o : Outcome) → Rounds j i o → ByNoise o
rounds_noise j i (accepted d k l) h = tt
rounds_noise j i (refused e k l) h = ⊎_elim (λ a. (omega arith, omega arith)) (λ b. (omega arith, omega arith)) h

pub reading_noise : (r m limit : ℕ) (w : List ℕ) → ByNoise (reading r m limit w)
reading_noise zero m limit w = leaf_noise 0 (reading 0 m limit w) (reading_leaf 0 m limit w (omega arith))
reading_noise (suc zero) m limit w = leaf_noise 1 (reading 1 m limit w) (reading_leaf 1 m limit w (omega arith))
reading_noise (suc (suc r)) m limit w = rounds_noise 0 limit (reading (suc (suc r)) m limit w) (reading_rounds (suc (suc r)) m limit w (omega arith))

-- ---- the leaf count only grows, so that a count above the leaf limit stays above it

module _ (m : ℕ) (lower : List ℕ → Outcome) (r : ℕ) where
  pub rounds_least : (left k l : ℕ) (w : List ℕ) → l ≤ leaves_of (rounds m lower r left k l w)
  rounds_least zero k l w = rw (rounds_none m lower r k l w) (le_refl l)
  rounds_least (suc left) k l w =
      round_cases m lower r left k l w (λ o. l ≤ leaves_of o)
      (λ e. omega arith) (omega arith) (omega (arith, rounds_least left (suc k) (l + round_leaves m lower w) (add_words w (flips m lower w))))

  -- a round that is begun is counted whole
  pub round_least : (left k l : ℕ) (w : List ℕ) → l + round_leaves m lower w ≤ leaves_of (rounds m lower r (suc left) k l w)
  round_least left k l w =
      round_cases m lower r left k l w (λ o. l + round_leaves m lower w ≤ leaves_of o)
      (λ e. le_refl _) (le_refl _) (rounds_least left (suc k) (l + round_leaves m lower w) _)

-- ---- the greatest leaf count

module _ (m : ℕ) (lower : List ℕ → Outcome) (r b : ℕ) (bound : (v : List ℕ) → leaves_of (lower v) ≤ b) where
  round_most : (w : List ℕ) → round_leaves m lower w ≤ (2 ^ suc m - 1) * b
  unfolding round_leaves
  round_most w = sum_most (2 ^ suc m - 1) b _ (λ i l. bound (project m (suc i) w))

  rounds_most : (left k l : ℕ) (w : List ℕ) → leaves_of (rounds m lower r left k l w) ≤ l + left * ((2 ^ suc m - 1) * b)
  rounds_most zero k l w = rw (rounds_none m lower r k l w) (omega arith)
  rounds_most (suc left) k l w =
      let now = round_most w in
      let later = rounds_most left (suc k) (l + round_leaves m lower w) (add_words w (flips m lower w)) in
      round_cases m lower r left k l w (λ o. leaves_of o ≤ l + suc left * ((2 ^ suc m - 1) * b)) (λ e. omega arith) (omega arith) (omega arith)

pub leaf_leaves : (r : ℕ) (o : Outcome) → Leaf r o → leaves_of o ≡ r
leaf_leaves r (accepted d k l) h = h.1
leaf_leaves r (refused e k l) h = h.1.1

pub reading_most : (r m limit : ℕ) (w : List ℕ) → leaves_of (reading r m limit w) ≤ most_leaves r m limit
unfolding reading most_leaves
reading_most zero m limit w = omega (arith, leaf_leaves 0 (order0 m (values w)) (order0_leaf m (values w)))
reading_most (suc zero) m limit w = omega (arith, leaf_leaves 1 (order1 m (values w)) (order1_leaf m (values w)))
reading_most (suc (suc r)) m limit w =
    le_trans (rounds_most (pred m) (reading (suc r) (pred m) limit) (suc (suc r)) (most_leaves (suc r) (pred m) limit) (reading_most (suc r) (pred m) limit) limit 0 0 w)
    (omega arith)

-- The rule: document 01, "A reading at order r", with the vote of document 02, request 5. Assumes nothing.
use Rattle.std.specs.Prelude.{ℕ, zero, suc, pred, ◌+◌, ◌-◌, ◌*◌, ◌%◌, ◌^◌, Bool, true, false, cond, List, ltb, eqb, ℤ, pos, negsuc, nat_abs}
use Rattle.words.specs.Sum.{sum_below, sum_below_ℤ, all_below, greatest_below, tabulate}
use Rattle.words.specs.Word.{bit, indicator, add_words}
use Rattle.code.specs.Code.{codeword_test}
use Rattle.direction.specs.Direction.{project, coset_of}
use Rattle.hadamard.specs.Correlation.{values, correlation, affine, constant_of, count_below, first_below}

-- what a reading gives: the decoded word, or the number of a refusal; then its rounds and its leaf count
pub data Outcome : Type 0 where
  accepted : List ℕ → ℕ → ℕ → Outcome
  refused : ℕ → ℕ → ℕ → Outcome

-- the word with t at every place
abbrev pub constant : ℕ → ℕ → List ℕ
constant m t = tabulate (2 ^ m) (λ p. t)

-- ---- "Order 0: all zeros or all ones, whichever is nearer; equal is a tie. Rounds 0, leaf count 0."

abbrev pub by_sum : ℕ → ℤ → Outcome
by_sum m (pos zero) = refused 9 0 0
by_sum m (pos (suc k)) = accepted (constant m 0) 0 0
by_sum m (negsuc k) = accepted (constant m 1) 0 0

-- the sum of the values is the number of zeros less the number of ones
unfoldable pub order0 : ℕ → (ℕ → ℤ) → Outcome
order0 m v = by_sum m (sum_below_ℤ (2 ^ m) v)

-- ---- "Order 1: the nearest codeword; a tie if two are equally near. Rounds 0, leaf count 1."

-- the mask of greatest absolute correlation gives the nearest; two masks that have it are a tie
unfoldable pub order1 : ℕ → (ℕ → ℤ) → Outcome
order1 m v =
    let size : ℕ → ℕ = λ u. nat_abs (correlation m v u) in
    let most : ℕ = greatest_below (2 ^ m) size in
    let u : ℕ = first_below (2 ^ m) size most in
    cond (eqb (count_below (2 ^ m) size most) 1) (accepted (affine m u (constant_of (correlation m v u))) 0 1) (refused 9 0 1)

-- ---- "Order 2 and above, in rounds."

abbrev pub leaves_of : Outcome → ℕ
leaves_of (accepted d k l) = l
leaves_of (refused e k l) = l

-- "A direction whose reading gives no codeword abstains."
abbrev pub abstains : Outcome → ℕ
abstains (accepted d k l) = 0
abstains (refused e k l) = 1

-- "Otherwise it votes to flip p if its decoded bit at p's coset differs from the projected bit": direction b, projection v
abbrev pub vote : ℕ → List ℕ → Outcome → ℕ → ℕ
vote b v (accepted d k l) p = (bit v (coset_of b p) + bit d (coset_of b p)) % 2
vote b v (refused e k l) p = 0

-- document 02, request 5: "A place flips exactly when 2 × its votes is more than the number of directions that did not abstain. Equality
-- leaves the bit.", in place of document 01's "2 × its votes > n − 1": by its votes, the number of directions, n - 1, and how many abstained
unfoldable pub flipped : ℕ → ℕ → ℕ → Bool
flipped votes directions abstained = ltb (directions - abstained) (2 * votes)

-- one round of a word of exponent m + 1: directions 1 to n - 1, each read one order lower
module _ (m : ℕ) (lower : List ℕ → Outcome) where
  unfoldable pub votes : List ℕ → ℕ → ℕ
  votes w p = sum_below (2 ^ suc m - 1) (λ i. vote (suc i) (project m (suc i) w) (lower (project m (suc i) w)) p)

  unfoldable pub abstained : List ℕ → ℕ
  abstained w = sum_below (2 ^ suc m - 1) (λ i. abstains (lower (project m (suc i) w)))

  unfoldable pub round_leaves : List ℕ → ℕ
  round_leaves w = sum_below (2 ^ suc m - 1) (λ i. leaves_of (lower (project m (suc i) w)))

  -- "All flips of a round are made together."
  unfoldable pub flips : List ℕ → List ℕ
  flips w = let a : ℕ = abstained w in tabulate (2 ^ suc m) (λ p. indicator (flipped (votes w p) (2 ^ suc m - 1) a))

  -- "If nothing flipped the word is settled: a codeword is accepted, anything else is refused 11. If something flipped in the last
  -- permitted round the reading is refused 10": at most `left` more rounds, after k rounds with l leaves, at order r
  module _ (r : ℕ) where
    unfoldable pub rounds : ℕ → ℕ → ℕ → List ℕ → Outcome
    rounds zero k l w = refused 10 k l
    rounds (suc left) k l w =
        let fl : List ℕ = flips w in
        let l' : ℕ = l + round_leaves w in
        elim (all_below (2 ^ suc m) (λ p. eqb (bit fl p) 0)) [
          | true ↦ cond (codeword_test (suc m) r w) (accepted w (suc k) l') (refused 11 (suc k) l')
          | false ↦ rounds left (suc k) l' (add_words w fl)
        ]

-- the reading at order r of a word of exponent m under a round limit, with its full leaf count
unfoldable pub reading : ℕ → ℕ → ℕ → List ℕ → Outcome
reading zero m limit w = order0 m (values w)
reading (suc zero) m limit w = order1 m (values w)
reading (suc (suc r)) m limit w = rounds (pred m) (reading (suc r) (pred m) limit) (suc (suc r)) limit 0 0 w

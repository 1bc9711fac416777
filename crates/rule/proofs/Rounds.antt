-- One round of a reading: what flips is a word, the votes are those cast, what the round leads to, and when two rounds flip and count alike.
-- Assumes nothing.
use Prim.Native.Nat.{ℕ, suc, ◌+◌, ◌-◌, ◌^◌, ◌≤◌, ◌<◌}
use Rattle.std.specs.Prelude.{◌≡◌, Bool, List, eqb, ltb}
use Rattle.std.proofs.Math.Path.{refl, ap₂}
use Rattle.std.proofs.Common.{sym, subst, le-ltb}
use Rattle.std.proofs.Math.Bool.{true, false, cond}
use native.Mathlib.Omega.{arith}
use Rattle.code.specs.Code.{codeword_test}
use Rattle.rule.specs.Reading.{Outcome, abstained, abstains, accepted, flipped, flips, leaves_of, refused, round_leaves, rounds, vote, votes}
use Rattle.direction.specs.Direction.{project}
use Rattle.words.specs.Sum.{all_below}
use Rattle.words.specs.SumLaws.{bit_tabulate, sum_ext, sum_most, sum_plus, tabulate_ext, true_all}
use Rattle.words.specs.Word.{IsWord, add_words, bit, indicator}
use Rattle.words.proofs.WordLaws.{indicator-lt, word_tabulate}

-- a direction votes at most once, and not where it abstains
pub vote_once : (b : ℕ) (v : List ℕ) (o : Outcome) (p : ℕ) → vote b v o p + abstains o ≤ 1
vote_once b v (accepted d k l) p = omega arith
vote_once b v (refused e k l) p = omega arith

below_zero : (x : ℕ) → ltb x 0 ≡ false
below_zero x = le-ltb x 0 (omega arith)

-- a settled word after k rounds with l leaves, t the test whether it is a codeword
abbrev pub settled : List ℕ → ℕ → ℕ → Bool → Outcome
settled w k l t = cond t (accepted w k l) (refused 11 k l)

module _ (m : ℕ) (lower : List ℕ → Outcome) where
  pub flips_word : (w : List ℕ) → IsWord (suc m) (flips m lower w)
  unfolding flips
  flips_word w = word_tabulate _ _ (λ p l. indicator-lt (flipped (votes m lower w p) (2 ^ suc m - 1) (abstained m lower w)))

  -- nothing flips
  abbrev pub still : List ℕ → Bool
  still w = all_below (2 ^ suc m) (λ p. eqb (bit (flips m lower w) p) 0)

  -- a place has no more votes than directions did not abstain
  pub votes_cast : (w : List ℕ) (p : ℕ) → votes m lower w p + abstained m lower w ≤ 2 ^ suc m - 1
  unfolding votes abstained
  votes_cast w p =
      omega (
        arith,
        sum_plus (2 ^ suc m - 1) (λ i. vote (suc i) (project m (suc i) w) (lower (project m (suc i) w)) p) (λ i. abstains (lower (project m (suc i) w))),
        sum_most (2 ^ suc m - 1) 1 _ (λ i l. vote_once (suc i) (project m (suc i) w) (lower (project m (suc i) w)) p),
      )

  -- so where all abstain nothing flips
  pub none_cast : (w : List ℕ) → abstained m lower w ≡ 2 ^ suc m - 1 → still w ≡ true
  unfolding flips flipped
  none_cast w e =
      true_all (2 ^ suc m) _ (λ p l.
      let none : votes m lower w p ≡ 0 = omega (arith, votes_cast w p) in rw (bit_tabulate (2 ^ suc m) _ p l, none) (simp below_zero))

  pub rounds_none : (r k l : ℕ) (w : List ℕ) → rounds m lower r 0 k l w ≡ refused 10 k l
  unfolding rounds
  rounds_none r k l w = refl

  module _ (r left k l : ℕ) (w : List ℕ) where
    abbrev count : ℕ
    count = l + round_leaves m lower w

    abbrev next : Outcome
    next = rounds m lower r left (suc k) count (add_words w (flips m lower w))

    pub rounds_step : rounds m lower r (suc left) k l w ≡ cond (still w) (settled w (suc k) count (codeword_test (suc m) r w)) next
    unfolding rounds
    rounds_step = go (still w) _ _
      where
        go : (t : Bool) (x y : Outcome) → elim t [ true ↦ x | false ↦ y ] ≡ cond t x y
        go true x y = refl
        go false x y = refl

    -- a property of what the round leads to, by cases
    pub round_cases : (P : Outcome → Type 0)
        → (codeword_test (suc m) r w ≡ true → P (accepted w (suc k) count)) → P (refused 11 (suc k) count) → P next → P (rounds m lower r (suc left) k l w)
    round_cases P a b c = subst P (sym rounds_step) (go (still w) (codeword_test (suc m) r w) refl)
      where
        go : (t s : Bool) → codeword_test (suc m) r w ≡ s → P (cond t (settled w (suc k) count s) next)
        go true true e = a e
        go true false e = b
        go false s e = c

-- ---- two rounds

-- direction b counts for the same, with projection v and outcome o as with v' and o'
pub record SameBallot (b : ℕ) (v : List ℕ) (o : Outcome) (v' : List ℕ) (o' : Outcome) : Type 0 where
  pub voted : (p : ℕ) → vote b v o p ≡ vote b v' o' p
  pub absent : abstains o ≡ abstains o'
  pub counted : leaves_of o ≡ leaves_of o'

module _ (m : ℕ) (lower lower' : List ℕ → Outcome) (w w' : List ℕ)
    (same : (i : ℕ) → i < 2 ^ suc m - 1 → SameBallot (suc i) (project m (suc i) w) (lower (project m (suc i) w)) (project m (suc i) w') (lower' (project m (suc i) w'))) where
  votes_same : (p : ℕ) → votes m lower w p ≡ votes m lower' w' p
  unfolding votes
  votes_same p = sum_ext (2 ^ suc m - 1) _ _ (λ i l. (same i l).voted p)

  abstained_same : abstained m lower w ≡ abstained m lower' w'
  unfolding abstained
  abstained_same = sum_ext (2 ^ suc m - 1) _ _ (λ i l. (same i l).absent)

  pub flips_same : flips m lower w ≡ flips m lower' w'
  unfolding flips
  flips_same = tabulate_ext (2 ^ suc m) _ _ (λ p l. ap₂ (λ (x y : ℕ). indicator (flipped x (2 ^ suc m - 1) y)) (votes_same p) abstained_same)

  pub leaves_same : round_leaves m lower w ≡ round_leaves m lower' w'
  unfolding round_leaves
  leaves_same = sum_ext (2 ^ suc m - 1) _ _ (λ i l. (same i l).counted)

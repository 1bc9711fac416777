-- The reading of confidences: document 02, request 2. Orders 0 and 1 are the rule's own, by values. Assumes nothing.
use Rattle.std.specs.Prelude.{ℕ, zero, suc, pred, ◌+◌, ◌-◌, ◌%◌, ◌^◌, min, cond, List, ltb, eqb, length, ℤ, pos, nat_abs}
use Rattle.std.specs.Int.Bits.{bit_xor}
use Rattle.words.specs.Sum.{sum_below, sum_below_ℤ, first_where, tabulate}
use Rattle.words.specs.Word.{bit}
use Rattle.area.specs.Area.{at}
use Rattle.code.specs.Code.{codeword_test}
use Rattle.direction.specs.Direction.{highest, insert_zero, coset_of}
use Rattle.hadamard.specs.Correlation.{signed, constant_of}
use Rattle.rule.specs.Reading.{Outcome, accepted, refused, order0, order1, leaves_of, abstains}

-- "−2,047 to 2,047, positive meaning bit 0"
abbrev pub greatest : ℕ
greatest = 2047

-- "adding a codeword means negating the values where it is 1"
unfoldable pub negated : List ℤ → List ℕ → List ℤ
negated x c = tabulate (length x) (λ p. signed (bit c p) (at x p))

-- "the product of the signs and the smaller magnitude"; where one is 0 the magnitude is
abbrev pub joint : ℤ → ℤ → ℤ
joint y z = signed ((constant_of y + constant_of z) % 2) (pos (min (nat_abs y) (nat_abs z)))

-- the projection of values of exponent m + 1 by b
unfoldable pub project_values : ℕ → ℕ → List ℤ → List ℤ
project_values m b x = tabulate (2 ^ m) (λ q. let p : ℕ = insert_zero (highest b) q in joint (at x p) (at x (bit_xor p b)))

-- "cut to ±2,047"
abbrev pub cut : ℤ → ℤ
cut z = signed (constant_of z) (pos (min (nat_abs z) greatest))

-- what direction b adds at p, given what its reading gave: "the old value at p XOR b, negated where the decoded bit of p's coset is 1"
abbrev pub share : ℕ → List ℤ → Outcome → ℕ → ℤ
share b x (accepted d k l) p = signed (bit d (coset_of b p)) (at x (bit_xor p b))
share b x (refused e k l) p = pos 0

-- one round of values of exponent m + 1: directions 1 to n - 1, each read one order lower
module _ (m : ℕ) (lower : List ℤ → Outcome) where
  -- what direction i + 1 gives
  abbrev pub read : List ℤ → ℕ → Outcome
  read x i = lower (project_values m (suc i) x)

  -- "the sum over directions that did not abstain"
  unfoldable pub sums : List ℤ → ℕ → ℤ
  sums x p = sum_below_ℤ (2 ^ suc m - 1) (λ i. share (suc i) x (read x i) p)

  unfoldable pub abstained : List ℤ → ℕ
  abstained x = sum_below (2 ^ suc m - 1) (λ i. abstains (read x i))

  unfoldable pub round_leaves : List ℤ → ℕ
  round_leaves x = sum_below (2 ^ suc m - 1) (λ i. leaves_of (read x i))

  -- "A round sets p to the sum .., and cut to ±2,047. If all abstained, p keeps its value."
  unfoldable pub updated : List ℤ → List ℤ
  updated x = let a : ℕ = abstained x in tabulate (2 ^ suc m) (λ p. cond (eqb a (2 ^ suc m - 1)) (at x p) (cut (sums x p)))

  -- the values after k rounds
  unfoldable pub values_after : ℕ → List ℤ → List ℤ
  values_after zero x = x
  values_after (suc k) x = updated (values_after k x)

  -- the leaf count of k rounds
  unfoldable pub leaves_after : ℕ → List ℤ → ℕ
  leaves_after k x = sum_below k (λ i. round_leaves (values_after i x))

-- "Signs then give the word"; document 02, request 3: "A confidence of 0 counts as bit 0"
unfoldable pub signs_of : ℕ → List ℤ → List ℕ
signs_of m x = tabulate (2 ^ m) (λ p. constant_of (at x p))

-- the lowest place of value 0, n where there is none
unfoldable pub lowest_zero : ℕ → List ℤ → ℕ
lowest_zero m x = first_where (2 ^ m) (λ p. eqb (nat_abs (at x p)) 0)

-- "17, a place ends with value 0 after the last round, .. tested before 11", "the word, which must be a codeword": after k rounds, l leaves
unfoldable pub ended : ℕ → ℕ → List ℤ → ℕ → ℕ → Outcome
ended m r x k l =
    cond (ltb (lowest_zero m x) (2 ^ m)) (refused 17 k l) (cond (codeword_test m r (signs_of m x)) (accepted (signs_of m x) k l) (refused 11 k l))

-- the reading at order r of values of exponent m: "From order 2 on exactly the round limit of rounds is made."
unfoldable pub reading : ℕ → ℕ → ℕ → List ℤ → Outcome
reading zero m limit x = order0 m (at x)
reading (suc zero) m limit x = order1 m (at x)
reading (suc (suc r)) m limit x =
    let lower : List ℤ → Outcome = reading (suc r) (pred m) limit in
    ended m (suc (suc r)) (values_after (pred m) lower limit x) limit (leaves_after (pred m) lower limit x)

-- "lowest place named": the place that 17 names, at order 2 and above
unfoldable pub zero_place : ℕ → ℕ → ℕ → List ℤ → ℕ
zero_place r m limit x = lowest_zero m (values_after (pred m) (reading (pred r) (pred m) limit) limit x)

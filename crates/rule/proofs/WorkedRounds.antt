-- Readings of a word with only place 0 wrong, worked out a round at a time: order 2 at exponent 4, order 3 at exponent 5. All directions
-- then have the same projection. Assumes nothing.
use Rattle.std.specs.Prelude.{ℕ, suc, ◌+◌, ◌-◌, ◌^◌, ◌<◌, ◌≡◌, refl, cond, List, [], get_or}
use Rattle.std.proofs.Common.{sym, ap, ◌∙◌}
use Rattle.std.specs.Int.Count.{count_leading_zeros, ones, ones_in}
use Rattle.code.specs.Code.{codeword_test, coefficient, low_test}
use Rattle.rule.specs.Reading.{Outcome, abstained, accepted, flipped, flips, order1, reading, refused, round_leaves, rounds, votes}
use Rattle.rule.proofs.Rounds.{SameBallot, flips_same, leaves_same, rounds_none, rounds_step, settled, still}
use Rattle.direction.specs.Direction.{coset_of, delete_bit, highest, insert_zero, project, representative}
use Rattle.hadamard.specs.Correlation.{affine, correlation, count_below}
use Rattle.words.specs.Sum.{first_where, tabulate, total}
use Rattle.words.specs.SumLaws.{get_or-tabulate}
use Rattle.words.specs.Word.{add_words}
use Rattle.rule.specs.WorkedTable.{zeros, wrong}

pub same_at : {A : Type 0} (n : ℕ) (f g : ℕ → A) (d : A) → tabulate n f ≡ tabulate n g → (i : ℕ) → i < n → f i ≡ g i
same_at n f g d e i l = sym (get_or-tabulate n f d i l) ∙ ap (λ xs. get_or xs i d) e ∙ get_or-tabulate n g d i l

-- the projections of w, of exponent m + 1, are all v
abbrev pub Projects : ℕ → List ℕ → List ℕ → Type 0
Projects m w v = tabulate (2 ^ suc m - 1) (λ i. project m (suc i) w) ≡ tabulate (2 ^ suc m - 1) (λ i. v)

-- a round in which every direction has the projection v, whose reading gives o
module _ (m : ℕ) (lower : List ℕ → Outcome) (w v : List ℕ) (o : Outcome) (all : Projects m w v) (read : lower v ≡ o) where
  same : (i : ℕ) → i < 2 ^ suc m - 1 → SameBallot (suc i) (project m (suc i) w) (lower (project m (suc i) w)) (project m (suc i) w) o
  same i l = rw (same_at (2 ^ suc m - 1) (λ i. project m (suc i) w) (λ i. v) [] all i l, read) (record { voted = λ p. refl; absent = refl; counted = refl })

  pub one_round : (r left k l : ℕ) → rounds m lower r (suc left) k l w ≡
      cond (still m (λ u. o) w) (settled w (suc k) (l + round_leaves m (λ u. o) w) (codeword_test (suc m) r w))
      (rounds m lower r left (suc k) (l + round_leaves m (λ u. o) w) (add_words w (flips m (λ u. o) w)))
  one_round r left k l = rw (rounds_step m lower r left k l w, flips_same m lower (λ u. o) w w same, leaves_same m lower (λ u. o) w w same)

-- ---- order 2 at exponent 4, under any round limit

record Leaves (limit : ℕ) : Type 0 where
  first : Projects 3 (wrong 16) (wrong 8)
  second : Projects 3 (zeros 16) (zeros 8)
  first_read : reading 1 3 limit (wrong 8) ≡ accepted (zeros 8) 0 1
  second_read : reading 1 3 limit (zeros 8) ≡ accepted (zeros 8) 0 1

leaves : (limit : ℕ) → Leaves limit
unfolding project tabulate insert_zero highest count_leading_zeros reading order1 count_below first_where correlation affine total ones ones_in
leaves limit = record { first = refl; second = refl; first_read = refl; second_read = refl }

-- the rounds at order 2
record Middle (limit left : ℕ) : Type 0 where
  first : rounds 3 (reading 1 3 limit) 2 (suc left) 0 0 (wrong 16) ≡ rounds 3 (reading 1 3 limit) 2 left 1 15 (zeros 16)
  second : (k l : ℕ) → rounds 3 (reading 1 3 limit) 2 (suc left) k l (zeros 16) ≡ accepted (zeros 16) (suc k) (l + 15)

middle : (limit left : ℕ) → Middle limit left
unfolding codeword_test low_test coefficient project tabulate insert_zero highest count_leading_zeros votes abstained flipped flips round_leaves total ones ones_in coset_of representative delete_bit add_words
middle limit left =
    let low : Leaves limit = leaves limit in
    record {
      first = one_round 3 (reading 1 3 limit) (wrong 16) (wrong 8) (accepted (zeros 8) 0 1) low.first low.first_read 2 left 0 0;
      second = λ k l. one_round 3 (reading 1 3 limit) (zeros 16) (zeros 8) (accepted (zeros 8) 0 1) low.second low.second_read 2 left k l;
    }

pub mended : (left : ℕ) → reading 2 4 (suc (suc left)) (wrong 16) ≡ accepted (zeros 16) 2 30
unfolding reading
mended left = (middle (suc (suc left)) (suc left)).first ∙ (middle (suc (suc left)) left).second 1 15

clean : (left : ℕ) → reading 2 4 (suc left) (zeros 16) ≡ accepted (zeros 16) 1 15
unfolding reading
clean left = (middle (suc left) left).second 0 0

pub stopped : reading 2 4 1 (wrong 16) ≡ refused 10 1 15
unfolding reading
stopped = (middle 1 0).first ∙ rounds_none 3 (reading 1 3 1) 2 1 15 (zeros 16)

-- ---- order 3 at exponent 5

record Inner : Type 0 where
  first : Projects 4 (wrong 32) (wrong 16)
  second : Projects 4 (zeros 32) (zeros 16)

inner : Inner
unfolding project tabulate insert_zero highest count_leading_zeros
inner = record { first = refl; second = refl }

-- the rounds at order 3
record Outer : Type 0 where
  first : rounds 4 (reading 2 4 4) 3 4 0 0 (wrong 32) ≡ rounds 4 (reading 2 4 4) 3 3 1 930 (zeros 32)
  second : rounds 4 (reading 2 4 4) 3 3 1 930 (zeros 32) ≡ accepted (zeros 32) 2 1395
  once : rounds 4 (reading 2 4 1) 3 1 0 0 (wrong 32) ≡ refused 11 1 465

outer : Outer
unfolding codeword_test low_test coefficient project tabulate insert_zero highest count_leading_zeros votes abstained flipped flips round_leaves total ones ones_in coset_of representative delete_bit add_words
outer = record {
  first = one_round 4 (reading 2 4 4) (wrong 32) (wrong 16) (accepted (zeros 16) 2 30) inner.first (mended 2) 3 3 0 0;
  second = one_round 4 (reading 2 4 4) (zeros 32) (zeros 16) (accepted (zeros 16) 1 15) inner.second (clean 3) 3 2 1 930;
  once = one_round 4 (reading 2 4 1) (wrong 32) (wrong 16) (refused 10 1 15) inner.first stopped 3 0 0 0;
}

pub four_rounds : reading 3 5 4 (wrong 32) ≡ accepted (zeros 32) 2 1395
unfolding reading
four_rounds = outer.first ∙ outer.second

pub one_round_only : reading 3 5 1 (wrong 32) ≡ refused 11 1 465
unfolding reading
one_round_only = outer.once

-- Document 02, request 5: two blocks of order 2 that show which votes are counted, worked out a round at a time. Assumes nothing.
use Prim.Native.Nat.{ℕ, suc, ◌+◌, ◌-◌, ◌/◌, ◌%◌, ◌^◌, ◌<◌}
use Rattle.std.specs.Prelude.{◌≡◌, refl, cond, eqb, ltb, pos, nat_abs}
use Rattle.std.proofs.Math.Path.{ap, ap₂}
use Rattle.std.proofs.Common.{◌∙◌, ⊎_elim, pow_pos, eq-eqb, ne_eqb}
use mathlib.Core.List.{List}
use Rattle.std.specs.Int.Bits.{bit_and}
use Rattle.std.specs.Int.Count.{count_leading_zeros, ones, ones_in}
use Rattle.std.proofs.Math.IntN.{ℤ}
use Rattle.area.specs.Area.{at}
use Rattle.code.specs.Code.{codeword_test, coefficient, low_test}
use Rattle.rule.proofs.Order1.{order1_alone, order1_shared, sizes}
use Rattle.rule.specs.Reading.{Outcome, abstained, abstains, accepted, flipped, flips, leaves_of, order1, reading, refused, round_leaves, rounds, vote, votes}
use Rattle.rule.proofs.Rounds.{rounds_step, settled}
use Rattle.rule.specs.WorkedTable.{zeros, four_wrong, nine_wrong}
use Rattle.rule.proofs.WorkedRounds.{Projects, one_round, same_at}
use Rattle.direction.specs.Direction.{coset_of, delete_bit, highest, insert_zero, project, representative}
use Rattle.hadamard.specs.Correlation.{affine, constant_of, correlation, count_below, first_below, signed, values}
use Rattle.hadamard.specs.Peak.{Alone, Shared, alone_count, alone_first, alone_moved, peak, shared_count, shared_moved}
use Rattle.hadamard.specs.Transform.{sums, halved-correlation}
use Rattle.words.specs.Butterflies.{butterflies, halved}
use Rattle.words.specs.Sum.{all_below, first_where, greatest_below, sum_below, tabulate, total}
use Rattle.words.specs.SumLaws.{get_or-tabulate, length-tabulate, sum_ext, sum_ℤ_ext, tabulate_ext}
use Rattle.words.specs.Word.{add_words, bit, indicator}

-- ---- order 1 by the transform, which computes faster than the sums over all places

unfoldable transformed : ℕ → List ℕ → List ℤ
transformed m w = halved sums m (tabulate (2 ^ m) (values w))

-- the reading at order 1, by a list of the correlations
abbrev by_list : ℕ → List ℤ → Outcome
by_list m c =
    let size : ℕ → ℕ = λ u. nat_abs (at c u) in
    let most : ℕ = greatest_below (2 ^ m) size in
    let u : ℕ = first_below (2 ^ m) size most in
    cond (eqb (count_below (2 ^ m) size most) 1) (accepted (affine m u (constant_of (at c u))) 0 1) (refused 9 0 1)

module _ (m : ℕ) (w : List ℕ) where
  abbrev v : ℕ → ℤ
  v = values w

  abbrev c : List ℤ
  c = transformed m w

  same : (u : ℕ) → u < 2 ^ m → at c u ≡ correlation m v u
  unfolding transformed correlation
  same u l =
      let a : List ℤ = tabulate (2 ^ m) v in
      ap (λ (x : List ℤ). at x u) (halved-correlation m a (length-tabulate (2 ^ m) v)) ∙ get_or-tabulate (2 ^ m) (correlation m (at a)) (pos 0) u l
      ∙ sum_ℤ_ext (2 ^ m) _ _ (λ p h. ap (signed (ones (bit_and u p) % 2)) (get_or-tabulate (2 ^ m) v (pos 0) p h))

  abbrev listed : ℕ → ℕ
  listed u = nat_abs (at c u)

  alone : {u : ℕ} → Alone (2 ^ m) (sizes m v) u → Alone (2 ^ m) listed u
  alone h = alone_moved (2 ^ m) (sizes m v) listed (λ u. u) (λ u l. l) (λ u l. refl) (λ u l. ap nat_abs (same u l)) h

  shared : Shared (2 ^ m) (sizes m v) → Shared (2 ^ m) listed
  shared h = shared_moved (2 ^ m) (sizes m v) listed (λ u. u) (λ u l. l) (λ u l. refl) (λ u l. ap nat_abs (same u l)) h

  order1_listed : order1 m v ≡ by_list m c
  order1_listed =
      ⊎_elim
      (λ h. order1_alone m v h ∙ rw (eq-eqb _ 1 (alone_count (alone h)), alone_first (alone h), same _ h.below))
      (λ h. order1_shared m v h ∙ rw (ne_eqb _ 1 (shared_count (shared h))))
      (peak (2 ^ m) (sizes m v) (pow_pos m))

-- ---- a round at order 2 of a word of exponent m + 1, by what its directions' readings give

-- direction i + 1 gives o i, and so these places flip
record Given (m : ℕ) (w : List ℕ) (o : ℕ → Outcome) (flipping : List ℕ) : Type 0 where
  told : tabulate (2 ^ suc m - 1) (λ i. by_list m (transformed m (project m (suc i) w))) ≡ tabulate (2 ^ suc m - 1) o
  flip :
      tabulate (2 ^ suc m) (λ p.
      indicator (flipped (sum_below (2 ^ suc m - 1) (λ i. vote (suc i) (project m (suc i) w) (o i) p)) (2 ^ suc m - 1) (sum_below (2 ^ suc m - 1) (λ i. abstains (o i)))))
      ≡ flipping

module _ {m : ℕ} {w : List ℕ} {o : ℕ → Outcome} {flipping : List ℕ} (given : Given m w o flipping) (limit : ℕ) where
  abbrev directions : ℕ
  directions = 2 ^ suc m - 1

  abbrev lower : List ℕ → Outcome
  lower = reading 1 m limit

  read : (i : ℕ) → i < directions → lower (project m (suc i) w) ≡ o i
  unfolding reading
  read i l =
      order1_listed m (project m (suc i) w)
      ∙ same_at directions (λ j. by_list m (transformed m (project m (suc j) w))) o (refused 9 0 1) given.told i l

  leaves_given : round_leaves m lower w ≡ sum_below directions (λ i. leaves_of (o i))
  unfolding round_leaves
  leaves_given = sum_ext directions _ _ (λ i l. ap leaves_of (read i l))

  flips_given : flips m lower w ≡ flipping
  unfolding flips votes abstained
  flips_given =
      tabulate_ext (2 ^ suc m) _ _ (λ p l.
      ap₂ (λ (x y : ℕ). indicator (flipped x directions y))
      (sum_ext directions _ _ (λ i h. ap (λ (x : Outcome). vote (suc i) (project m (suc i) w) x p) (read i h)))
      (sum_ext directions _ _ (λ i h. ap abstains (read i h))))
      ∙ given.flip

  round_given : (left k l : ℕ) → let l' = l + sum_below directions (λ i. leaves_of (o i)) in
      rounds m lower 2 (suc left) k l w ≡
      cond (all_below (2 ^ suc m) (λ p. eqb (bit flipping p) 0)) (settled w (suc k) l' (codeword_test (suc m) 2 w)) (rounds m lower 2 left (suc k) l' (add_words w flipping))
  round_given left k l = rw (rounds_step m lower 2 left k l w, flips_given, leaves_given)

-- ---- exponent 5: places 0, 1, 2 and 4 wrong

-- directions 1 to 6, each between two of the four places, give zeros; all others tie. Each of the four has 3 of the 6 votes: equality.
equal : Given 4 four_wrong (λ i. cond (ltb i 6) (accepted (zeros 16) 0 1) (refused 9 0 1)) (zeros 32)
unfolding transformed sums halved butterflies project tabulate insert_zero highest count_leading_zeros count_below first_where affine total ones ones_in flipped coset_of representative delete_bit
equal = record { told = refl; flip = refl }

pub left_alone : (left : ℕ) → reading 2 5 (suc left) four_wrong ≡ refused 11 1 31
unfolding reading codeword_test low_test coefficient total tabulate ones ones_in
left_alone left = round_given equal (suc left) left 0 0

-- ---- exponent 6: nine places wrong, each with more than half of the votes cast, but not of all directions

-- 27 directions, the ones of this number, tie; all others give zeros, and each of the nine places has more than half of their 36 votes
more : Given 5 nine_wrong (λ i. cond (eqb (13848372110637000844 / 2 ^ suc i % 2) 1) (refused 9 0 1) (accepted (zeros 32) 0 1)) nine_wrong
unfolding transformed sums halved butterflies project tabulate insert_zero highest count_leading_zeros count_below first_where affine total ones ones_in flipped coset_of representative delete_bit
more = record { told = refl; flip = refl }

-- zeros stay
record Clean : Type 0 where
  all : Projects 5 (zeros 64) (zeros 32)
  zero : by_list 5 (transformed 5 (zeros 32)) ≡ accepted (zeros 32) 0 1

clean : Clean
unfolding transformed sums halved butterflies project tabulate insert_zero highest count_leading_zeros count_below first_where affine total ones ones_in
clean = record { all = refl; zero = refl }

module _ (limit left : ℕ) where
  first : rounds 5 (reading 1 5 limit) 2 (suc left) 0 0 nine_wrong ≡ rounds 5 (reading 1 5 limit) 2 left 1 63 (zeros 64)
  unfolding total tabulate add_words
  first = round_given more limit left 0 0

  read_zeros : reading 1 5 limit (zeros 32) ≡ accepted (zeros 32) 0 1
  unfolding reading
  read_zeros = order1_listed 5 (zeros 32) ∙ clean.zero

  second : rounds 5 (reading 1 5 limit) 2 (suc left) 1 63 (zeros 64) ≡ accepted (zeros 64) 2 126
  unfolding codeword_test low_test coefficient project tabulate insert_zero highest count_leading_zeros votes abstained flipped flips round_leaves total ones ones_in coset_of representative delete_bit add_words
  second = one_round 5 (reading 1 5 limit) (zeros 64) (zeros 32) (accepted (zeros 32) 0 1) clean.all read_zeros 2 left 1 63

pub nine_mended : (left : ℕ) → reading 2 6 (suc (suc left)) nine_wrong ≡ accepted (zeros 64) 2 126
unfolding reading
nine_mended left = first (suc (suc left)) (suc left) ∙ second (suc (suc left)) left

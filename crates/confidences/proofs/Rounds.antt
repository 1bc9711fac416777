-- Blocks of values, and the rounds of a reading step by step: projections, what directions add, new values, counts, and how a reading ends.
-- Assumes nothing.
use Prim.Native.Nat.{ℕ, zero, suc, ◌+◌, ◌-◌, ◌^◌, ◌≤◌, ◌<◌}
use Rattle.std.specs.Prelude.{◌≡◌, Bool, cond, List, eqb, ℤ, pos, nat_abs, ◌+ℤ◌}
use Rattle.std.proofs.Math.Path.{refl}
use Rattle.std.proofs.Common.{sym, ap, ◌∙◌, sub-one, arith, ext_get_or, eq-eqb, le-ltb, lt-ltb, ltb-false, ltb-true, ne_eqb}
use Rattle.std.proofs.Math.Bool.{true, false}
use Rattle.std.specs.Int.Bits.{bit_xor}
use Rattle.std.proofs.Math.Dec.{ltb}
use Rattle.std.proofs.lemmas.Bool.{eqb-false}
use Rattle.area.specs.Area.{at}
use Rattle.code.specs.Code.{codeword_test}
use Rattle.direction.specs.Direction.{highest, insert_zero}
use Rattle.hadamard.specs.Correlation.{constant_of}
use Rattle.hadamard.specs.CorrelationLaws.{constant_of-lt}
use Rattle.rule.specs.Reading.{Outcome, abstains, accepted, leaves_of, order0, order1, refused}
use Rattle.words.specs.Search.{First, where_first}
use Rattle.words.specs.Sum.{tabulate, total}
use Rattle.words.specs.SumLaws.{bit_tabulate, get_or-tabulate, length-tabulate, sum_prefix}
use Rattle.words.specs.Word.{IsWord, bit}
use Rattle.words.proofs.WordLaws.{word_tabulate}
use Rattle.confidences.specs.Confidences.{abstained, cut, ended, joint, leaves_after, lowest_zero, project_values, read, reading, round_leaves, share, signs_of, sums, updated, values_after, zero_place}
use Rattle.confidences.specs.Blocks.{IsBlock, Nonzero}
use Rattle.confidences.specs.FirstDirections.{abstained_to, leaves_to, sums_to}

-- ---- values of exponent m

pub block_ext : {m : ℕ} {x y : List ℤ} → IsBlock m x → IsBlock m y → ((p : ℕ) → p < 2 ^ m → at x p ≡ at y p) → x ≡ y
block_ext {m} {x} {y} hx hy h = ext_get_or (pos 0) x y (hx.size ∙ sym hy.size) (λ p l. h p (omega (arith, hx.size)))

pub block_tabulate : (m : ℕ) (f : ℕ → ℤ) → IsBlock m (tabulate (2 ^ m) f)
block_tabulate m f = record { size = length-tabulate (2 ^ m) f }

-- ---- projection

pub project_block : (m b : ℕ) (x : List ℤ) → IsBlock m (project_values m b x)
unfolding project_values
project_block m b x = block_tabulate m _

pub at_project : (m b : ℕ) (x : List ℤ) (q : ℕ) → q < 2 ^ m
    → at (project_values m b x) q ≡ joint (at x (insert_zero (highest b) q)) (at x (bit_xor (insert_zero (highest b) q) b))
unfolding project_values
at_project m b x q l = get_or-tabulate (2 ^ m) _ (pos 0) q l

-- ---- a round

module _ (m : ℕ) (lower : List ℤ → Outcome) where
  -- of the first i directions
  module _ (x : List ℤ) where
    -- of all
    pub sums_all : (p : ℕ) → sums m lower x p ≡ sums_to m lower x (2 ^ suc m - 1) p
    unfolding sums
    sums_all p = refl

    pub abstained_all : abstained m lower x ≡ abstained_to m lower x (2 ^ suc m - 1)
    unfolding abstained
    abstained_all = refl

    pub leaves_all : round_leaves m lower x ≡ leaves_to m lower x (2 ^ suc m - 1)
    unfolding round_leaves
    leaves_all = refl

    -- of none, and of one more
    pub sums_none : (p : ℕ) → sums_to m lower x 0 p ≡ pos 0
    unfolding total
    sums_none p = refl

    pub sums_more : (i p : ℕ) → sums_to m lower x (suc i) p ≡ sums_to m lower x i p +ℤ share (suc i) x (read m lower x i) p
    unfolding total
    sums_more i p = refl

    pub abstained_none : abstained_to m lower x 0 ≡ 0
    unfolding total
    abstained_none = refl

    pub abstained_more : (i : ℕ) → abstained_to m lower x (suc i) ≡ abstained_to m lower x i + abstains (read m lower x i)
    unfolding total
    abstained_more i = refl

    pub leaves_to_none : leaves_to m lower x 0 ≡ 0
    unfolding total
    leaves_to_none = refl

    pub leaves_to_more : (i : ℕ) → leaves_to m lower x (suc i) ≡ leaves_to m lower x i + leaves_of (read m lower x i)
    unfolding total
    leaves_to_more i = refl

    -- the leaves of some directions are no more than the round's
    pub leaves_to_prefix : (i : ℕ) → i ≤ 2 ^ suc m - 1 → leaves_to m lower x i ≤ round_leaves m lower x
    unfolding round_leaves
    leaves_to_prefix i h = sum_prefix (2 ^ suc m - 1) i _ h

    -- new values
    pub updated_block : IsBlock (suc m) (updated m lower x)
    unfolding updated
    updated_block = block_tabulate (suc m) _

    module _ (p : ℕ) (l : p < 2 ^ suc m) where
      pub at-updated : at (updated m lower x) p ≡ cond (eqb (abstained m lower x) (2 ^ suc m - 1)) (at x p) (cut (sums m lower x p))
      unfolding updated
      at-updated = get_or-tabulate (2 ^ suc m) _ (pos 0) p l

      -- "If all abstained, p keeps its value."
      pub updated_kept : abstained m lower x ≡ 2 ^ suc m - 1 → at (updated m lower x) p ≡ at x p
      updated_kept e = at-updated ∙ ap (λ (t : Bool). cond t (at x p) (cut (sums m lower x p))) (eq-eqb _ _ e)

      pub updated-cut : (abstained m lower x ≡ 2 ^ suc m - 1 → ⊥) → at (updated m lower x) p ≡ cut (sums m lower x p)
      updated-cut k = at-updated ∙ ap (λ (t : Bool). cond t (at x p) (cut (sums m lower x p))) (ne_eqb _ _ k)

  -- the rounds one after the other
  pub values_none : (x : List ℤ) → values_after m lower 0 x ≡ x
  unfolding values_after
  values_none x = refl

  pub values_more : (k : ℕ) (x : List ℤ) → values_after m lower (suc k) x ≡ updated m lower (values_after m lower k x)
  unfolding values_after
  values_more k x = refl

  pub after_block : (k : ℕ) (x : List ℤ) → IsBlock (suc m) x → IsBlock (suc m) (values_after m lower k x)
  unfolding values_after
  after_block zero x hx = hx
  after_block (suc k) x hx = updated_block (values_after m lower k x)

  pub leaves_none : (x : List ℤ) → leaves_after m lower 0 x ≡ 0
  unfolding leaves_after total
  leaves_none x = refl

  pub leaves_more : (k : ℕ) (x : List ℤ) → leaves_after m lower (suc k) x ≡ leaves_after m lower k x + round_leaves m lower (values_after m lower k x)
  unfolding leaves_after total
  leaves_more k x = refl

  pub leaves_prefix : (limit k : ℕ) (x : List ℤ) → k ≤ limit → leaves_after m lower k x ≤ leaves_after m lower limit x
  unfolding leaves_after
  leaves_prefix limit k x h = sum_prefix limit k _ h

-- ---- the end

pub signs_word : (m : ℕ) (x : List ℤ) → IsWord m (signs_of m x)
unfolding signs_of
signs_word m x = word_tabulate m _ (λ p l. constant_of-lt (at x p))

pub bit_signs : (m : ℕ) (x : List ℤ) (p : ℕ) → p < 2 ^ m → bit (signs_of m x) p ≡ constant_of (at x p)
unfolding signs_of
bit_signs m x p l = bit_tabulate (2 ^ m) _ p l

pub zero_first : (m : ℕ) (x : List ℤ) → First (2 ^ m) (λ p. eqb (nat_abs (at x p)) 0) (lowest_zero m x)
unfolding lowest_zero
zero_first m x = where_first (2 ^ m) (λ p. eqb (nat_abs (at x p)) 0)

-- where no place is found, no value is 0
pub none_zero : (m : ℕ) (x : List ℤ) → 2 ^ m ≤ lowest_zero m x → Nonzero m x
none_zero m x h p l =
    let k : nat_abs (at x p) ≡ 0 → ⊥ = eqb-false (nat_abs (at x p)) 0 ((zero_first m x).before p (omega arith)) in
    omega arith

module _ (m r : ℕ) (x : List ℤ) (k l : ℕ) where
  pub ended_zero : lowest_zero m x < 2 ^ m → ended m r x k l ≡ refused 17 k l
  unfolding ended
  ended_zero h = rw (lt-ltb (lowest_zero m x) (2 ^ m) h)

  module _ (none : 2 ^ m ≤ lowest_zero m x) where
    pub ended_codeword : codeword_test m r (signs_of m x) ≡ true → ended m r x k l ≡ accepted (signs_of m x) k l
    unfolding ended
    ended_codeword e = rw (le-ltb (lowest_zero m x) (2 ^ m) none, e)

    pub ended_other : codeword_test m r (signs_of m x) ≡ false → ended m r x k l ≡ refused 11 k l
    unfolding ended
    ended_other e = rw (le-ltb (lowest_zero m x) (2 ^ m) none, e)

  -- a property of the outcome, by cases
  pub ended_cases : (P : Outcome → Type 0) → (lowest_zero m x < 2 ^ m → P (refused 17 k l))
      → (2 ^ m ≤ lowest_zero m x → codeword_test m r (signs_of m x) ≡ true → P (accepted (signs_of m x) k l))
      → (2 ^ m ≤ lowest_zero m x → P (refused 11 k l)) → P (ended m r x k l)
  unfolding ended
  ended_cases P a b c = go (ltb (lowest_zero m x) (2 ^ m)) refl (codeword_test m r (signs_of m x)) refl
    where
      go : (s : Bool) → ltb (lowest_zero m x) (2 ^ m) ≡ s → (t : Bool) → codeword_test m r (signs_of m x) ≡ t
          → P (cond s (refused 17 k l) (cond t (accepted (signs_of m x) k l) (refused 11 k l)))
      go true e t f = a (ltb-true (lowest_zero m x) (2 ^ m) e)
      go false e true f = b (ltb-false (lowest_zero m x) (2 ^ m) e) f
      go false e false f = c (ltb-false (lowest_zero m x) (2 ^ m) e)

  pub ended_leaves : leaves_of (ended m r x k l) ≡ l
  ended_leaves = ended_cases (λ (o : Outcome). leaves_of o ≡ l) (λ z. refl) (λ z e. refl) (λ z. refl)

-- ---- a reading

pub reading-zero : (m limit : ℕ) (x : List ℤ) → reading 0 m limit x ≡ order0 m (at x)
unfolding reading
reading-zero m limit x = refl

pub reading_one : (m limit : ℕ) (x : List ℤ) → reading 1 m limit x ≡ order1 m (at x)
unfolding reading
reading_one m limit x = refl

-- order 2 and above
pub reading_above : (r m limit : ℕ) (x : List ℤ) → 2 ≤ r
    → reading r m limit x ≡ ended m r (values_after (m - 1) (reading (r - 1) (m - 1) limit) limit x) limit (leaves_after (m - 1) (reading (r - 1) (m - 1) limit) limit x)
unfolding reading
reading_above zero m limit x h = absurd (omega arith)
reading_above (suc zero) m limit x h = absurd (omega arith)
reading_above (suc (suc r)) m limit x h = rw (sub-one m, sub-one (suc (suc r)))

pub place_above : (r m limit : ℕ) (x : List ℤ) → zero_place r m limit x ≡ lowest_zero m (values_after (m - 1) (reading (r - 1) (m - 1) limit) limit x)
unfolding zero_place
place_above r m limit x = rw (sub-one m, sub-one r)

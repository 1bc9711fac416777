-- The numbers of a reading of confidences stay small: 32 bits hold them. Assumes nothing.
use Prim.Native.Nat.{ℕ, zero, suc, ◌-◌, ◌*◌, ◌%◌, ◌^◌, ◌≤◌, ◌<◌}
use Rattle.std.proofs.Common.{ap, arith, pow_mono, ltb-false, ltb-true}
use Rattle.std.specs.Prelude.{Bool, cond, List, eqb, ltb, ℤ, pos, length}
use Rattle.std.proofs.Math.Bool.{true, false}
use Rattle.std.proofs.Math.Decide.{dec_lt}
use Rattle.std.specs.Int.Bits.{bit_and, bit_xor}
use Rattle.std.specs.Int.Count.{ones}
use Rattle.std.proofs.Math.IntN.{nat_abs}
use Rattle.std.proofs.Math.ListN.{get_or-eq_default}
use Rattle.area.specs.Area.{at}
use Rattle.area.specs.Numbers.{nat_abs-add}
use Rattle.direction.specs.Direction.{coset_of, highest, insert_zero}
use Rattle.hadamard.specs.Correlation.{correlation, signed}
use Rattle.hadamard.specs.CorrelationLaws.{nat_abs-signed}
use Rattle.rule.specs.Reading.{Outcome, accepted, refused}
use Rattle.words.specs.Search.{First, where_first}
use Rattle.words.specs.Sum.{sum_below_ℤ, tabulate, total}
use Rattle.words.specs.SumLaws.{get_or-tabulate, length-tabulate}
use Rattle.words.specs.Word.{bit}
use Rattle.confidences.specs.Answers.{lowest_outside}
use Rattle.confidences.specs.Confidences.{abstained, cut, greatest, project_values, read, share, sums, updated, values_after}
use Rattle.confidences.specs.FirstDirections.{sums_to}
use Rattle.confidences.proofs.Signs.{cut_size, joint_size}
use Rattle.confidences.specs.InRange.{InRange}

-- ---- sums

sum_bound : (n b : ℕ) (f : ℕ → ℤ) → ((p : ℕ) → nat_abs (f p) ≤ b) → nat_abs (sum_below_ℤ n f) ≤ n * b
unfolding total
sum_bound zero b f h = omega arith
sum_bound (suc n) b f h = omega (arith, nat_abs-add (sum_below_ℤ n f) (f n), sum_bound n b f h, h n)

range_tabulate : (n : ℕ) (f : ℕ → ℤ) → ((p : ℕ) → nat_abs (f p) ≤ greatest) → InRange (tabulate n f)
range_tabulate n f h = record {
  small = λ p. elim (dec_lt p n) [
    | yes l ↦ omega (arith, ap nat_abs (get_or-tabulate n f (pos 0) p l), h p)
    | no k ↦ omega (arith, ap nat_abs (get_or-eq_default (tabulate n f) (pos 0) {n = p} (omega (arith, length-tabulate n f))))
  ];
}

pub share_small : (b : ℕ) (x : List ℤ) → InRange x → (o : Outcome) (p : ℕ) → nat_abs (share b x o p) ≤ greatest
share_small b x h (accepted d k l) p = omega (arith, nat_abs-signed (bit d (coset_of b p)) (at x (bit_xor p b)), h.small (bit_xor p b))
share_small b x h (refused e k l) p = omega arith

module _ (x : List ℤ) (h : InRange x) where
  pub project_range : (m b : ℕ) → InRange (project_values m b x)
  unfolding project_values
  project_range m b =
      range_tabulate (2 ^ m) _
      (λ q. let p : ℕ = insert_zero (highest b) q in omega (arith, joint_size (at x p) (at x (bit_xor p b)), h.small p))

  pub updated_range : (m : ℕ) (lower : List ℤ → Outcome) → InRange (updated m lower x)
  unfolding updated
  updated_range m lower = range_tabulate (2 ^ suc m) _ (λ p. go (eqb (abstained m lower x) (2 ^ suc m - 1)) p)
    where
      go : (t : Bool) (p : ℕ) → nat_abs (cond t (at x p) (cut (sums m lower x p))) ≤ greatest
      go true p = h.small p
      go false p = omega (arith, cut_size (sums m lower x p))

  -- the sums, before they are cut, and on the way to them: those of i directions
  pub sums_bound : (m : ℕ) (lower : List ℤ → Outcome) (i p : ℕ) → nat_abs (sums_to m lower x i p) ≤ i * greatest
  sums_bound m lower i p = sum_bound i greatest _ (λ j. share_small (suc j) x h (read m lower x j) p)

  -- at most 1,023 × 2,047
  pub sums_small : (m : ℕ) (lower : List ℤ → Outcome) (i p : ℕ) → m ≤ 9 → i ≤ 2 ^ suc m - 1 → nat_abs (sums_to m lower x i p) < 2 ^ 29
  sums_small m lower i p hm l = omega (arith, sums_bound m lower i p, pow_mono {i = suc m} {j = 10} (omega arith))

  -- the sum of n values, in any order of signs, and of some of them
  pub signed_bound : (n : ℕ) (t : ℕ → ℕ) → nat_abs (sum_below_ℤ n (λ p. signed (t p) (at x p))) ≤ n * greatest
  signed_bound n t = sum_bound n greatest _ (λ p. omega (arith, nat_abs-signed (t p) (at x p), h.small p))

  pub total_small : (n : ℕ) → n ≤ 1024 → nat_abs (sum_below_ℤ n (at x)) < 2 ^ 29
  total_small n l = omega (arith, sum_bound n greatest (at x) h.small)

  pub correlation_bound : (m u : ℕ) → nat_abs (correlation m (at x) u) ≤ 2 ^ m * greatest
  unfolding correlation
  correlation_bound m u = signed_bound (2 ^ m) (λ p. ones (bit_and u p) % 2)

  -- at most 512 × 2,047
  pub correlation_small : (m u : ℕ) → m ≤ 9 → nat_abs (correlation m (at x) u) < 2 ^ 20
  correlation_small m u hm = omega (arith, correlation_bound m u, pow_mono {i = m} {j = 9} hm)

pub after_range : (m : ℕ) (lower : List ℤ → Outcome) (k : ℕ) (x : List ℤ) → InRange x → InRange (values_after m lower k x)
unfolding values_after
after_range m lower zero x h = h
after_range m lower (suc k) x h = updated_range (values_after m lower k x) (after_range m lower k x h) m lower

-- ---- the test for 18

pub outside_first : (x : List ℤ) → First (length x) (λ p. ltb greatest (nat_abs (at x p))) (lowest_outside x)
unfolding lowest_outside
outside_first x = where_first (length x) (λ p. ltb greatest (nat_abs (at x p)))

-- values that pass it are in range
pub range_tested : (x : List ℤ) → length x ≤ lowest_outside x → InRange x
range_tested x e = record {
  small = λ p. elim (dec_lt p (length x)) [
    | yes l ↦ ltb-false greatest (nat_abs (at x p)) ((outside_first x).before p (omega arith))
    | no k ↦ omega (arith, ap nat_abs (get_or-eq_default x (pos 0) {n = p} (omega arith)))
  ];
}

-- values in range pass it
pub range_passes : (x : List ℤ) → InRange x → length x ≤ lowest_outside x
range_passes x h = elim (dec_lt (lowest_outside x) (length x)) [
  | yes l ↦ absurd (omega (arith, h.small (lowest_outside x), ltb-true greatest (nat_abs (at x (lowest_outside x))) ((outside_first x).found l)))
  | no k ↦ omega arith
]

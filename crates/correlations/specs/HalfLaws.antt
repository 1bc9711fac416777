-- The levels of a transform without its last one give the transform of each half. Assumes nothing.
use Rattle.std.specs.Prelude.{ℕ, zero, suc, ◌+◌, ◌*◌, ◌/◌, ◌^◌, ◌≤◌, ◌<◌, ◌≡◌, refl, List, ◌++◌, ℤ, pos, length, take, drop}
use Rattle.std.proofs.Common.{sym, ap, ◌∙◌, mul-one, arith, take-append-drop, pow_pos, get_or-append-add}
use Rattle.std.proofs.Math.Path.{ap₂}
use Rattle.std.proofs.Math.Decide.{dec_lt}
use Rattle.std.proofs.Math.Nat.{eq_of_mul-eq-mul_right}
use Rattle.std.proofs.Math.ListN.{get_or-append}
use Rattle.std.proofs.Math.Pow.{pow-lt}
use Rattle.words.specs.Butterflies.{Rule, blocks, halved}
use Rattle.words.specs.ButterflyLaws.{halved-zero, length-halved}
use Rattle.words.specs.Levels.{Transformed, transformed_blocks}
use Rattle.words.specs.Parts.{at-part_of, part_length}
use Rattle.words.specs.SumLaws.{get_or-tabulate}
use Rattle.area.specs.Area.{at}
use Rattle.hadamard.specs.Correlation.{correlation}
use Rattle.hadamard.specs.CorrelationLaws.{correlation_ext}
use Rattle.hadamard.specs.Summable.{Summable}
use Rattle.hadamard.specs.Transform.{sums, summable_entries, halved-correlation}
use Rattle.correlations.specs.Begun.{Blockwise, End, end_at}
use Rattle.correlations.specs.Halves.{HalvesDone}

-- ---- before the first level

blocks-zero : {A : Type 0} (R : Rule A) (s n : ℕ) (a : List A) → a ≡ blocks (halved R 0) s n a
unfolding blocks
blocks-zero R s zero a = refl
blocks-zero R s (suc n) a = rw (← halved-zero R (take s a), ← blocks-zero R s n (drop s a)) (sym (take-append-drop s a))

-- each number is a block
pub blocks_of_one : {m : ℕ} {x : List ℤ} → Summable m x → Blockwise 1 m x x
blocks_of_one {m} {x} s = record {
  summable = s;
  transformed = transformed_blocks sums (summable_entries s) 0 (omega arith) record {
    count = length x;
    place = sym (mul-one (length x));
    within = omega arith;
    size = refl;
    done = blocks-zero sums 1 (length x) x;
  };
}

-- ---- the levels of the halves

module _ {k : ℕ} {x : List ℤ} (s : Summable (suc k) x) where
  pub half : length x / 2 ≡ 2 ^ k
  half = omega (arith, s.size)

  pub half_end : {a : List ℤ} (j : ℕ) → length a ≡ length x → j ≤ k → End (2 ^ j) (length x / 2) a
  half_end j n l = end_at j k half l (omega arith)

-- ---- after the last level

-- the transform of the 2 ^ k numbers from place b on
part_transformed :
    (k b : ℕ) (x : List ℤ) → b + 2 ^ k ≤ length x → (u : ℕ) → u < 2 ^ k
    → at (halved sums k (take (2 ^ k) (drop b x))) u ≡ correlation k (λ p. at x (b + p)) u
part_transformed k b x l u g =
    let part : List ℤ = take (2 ^ k) (drop b x) in
    ap (λ (y : List ℤ). at y u) (halved-correlation k part (part_length (pos 0) b (2 ^ k) x l))
    ∙ get_or-tabulate (2 ^ k) (correlation k (at part)) (pos 0) u g
    ∙ correlation_ext k (at part) (λ p. at x (b + p)) (at-part_of (pos 0) b (2 ^ k) x l) u

-- the blocks of half the numbers are two
module _ {k h : ℕ} {x a : List ℤ} (b : Blockwise h (suc k) x a) (eh : h ≡ 2 ^ k) where
  abbrev t : Transformed sums (suc k) h x a
  t = b.transformed

  exponent_is : t.exponent ≡ k
  exponent_is = elim (dec_lt t.exponent k) [
    | yes l ↦ absurd (omega (arith, pow-lt l, t.height, eh))
    | no m ↦ elim (dec_lt k t.exponent) [
      | yes l ↦ absurd (omega (arith, pow-lt l, t.height, eh))
      | no n ↦ omega arith
    ]
  ]

  size : length x ≡ 2 ^ k + 2 ^ k
  size = omega (arith, b.summable.size)

  two : t.done.count ≡ 2
  two =
      eq_of_mul-eq-mul_right (2 ^ k) (pow_pos k) t.done.count 2
      (ap (λ (i : ℕ). t.done.count * 2 ^ i) (sym exponent_is) ∙ sym t.done.place ∙ size ∙ omega arith)

  abbrev low : List ℤ
  low = halved sums k (take (2 ^ k) x)

  abbrev high : List ℤ
  high = halved sums k (take (2 ^ k) (drop (2 ^ k) x))

  abbrev rest : List ℤ
  rest = drop (2 ^ k) (drop (2 ^ k) x)

  both : a ≡ low ++ (high ++ rest)
  unfolding blocks
  both = t.done.done ∙ ap₂ (λ (i n : ℕ). blocks (halved sums i) (2 ^ i) n x) exponent_is two

  low-length : length low ≡ 2 ^ k
  low-length = length-halved sums k _ (part_length (pos 0) 0 (2 ^ k) x (omega (arith, size)))

  high-length : length high ≡ 2 ^ k
  high-length = length-halved sums k _ (part_length (pos 0) (2 ^ k) (2 ^ k) x (omega (arith, size)))

  pub halves_done : HalvesDone k x a
  halves_done = record {
    long = t.done.size;
    first = λ u l. rw both
        (get_or-append low (high ++ rest) (pos 0) u (omega (arith, low-length))
        ∙ part_transformed k 0 x (omega (arith, size)) u l ∙ correlation_ext k _ (at x) (λ p g. ap (at x) (omega arith)) u);
    second = λ u l. rw both
        (ap (λ (i : ℕ). at (low ++ (high ++ rest)) (i + u)) (sym low-length) ∙ get_or-append-add low (high ++ rest) u (pos 0)
        ∙ get_or-append high rest (pos 0) u (omega (arith, high-length)) ∙ part_transformed k (2 ^ k) x (omega (arith, size)) u l);
  }

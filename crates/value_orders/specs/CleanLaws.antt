-- Values that are a codeword already, as the code tests them. Assumes nothing.
use Rattle.std.specs.Prelude.{ℕ, zero, suc, ◌+◌, ◌%◌, ◌^◌, ◌≤◌, ◌≡◌, Bool, true, false, List, eqb, length, ℤ, nat_abs, FitsSigned}
use Rattle.std.proofs.Math.Path.{refl, sym, ap, ap₂}
use Rattle.std.proofs.Common.{◌∙◌, arith}
use Rattle.std.proofs.Math.Bool.{◌&&◌}
use Rattle.std.specs.Int.{w32}
use Rattle.std.proofs.lemmas.Bool.{eqb-false, not-true}
use Rattle.words.specs.Sum.{all_below, total}
use Rattle.words.specs.SumLaws.{all_append, all_more, all_true, both_true}
use Rattle.area.specs.Area.{at}
use Rattle.area.specs.Numbers.{fits_32}
use Rattle.affine_test.specs.Marks.{Marked}
use Rattle.code.specs.Code.{codeword_test}
use Rattle.code.proofs.Codewords.{codeword_of_test}
use Rattle.code.specs.FirstOrder.{levels_test, repeats, repeats_below}
use Rattle.code.proofs.FirstOrderLaws.{levels_test_lem}
use Rattle.hadamard.specs.Correlation.{constant_of}
use Rattle.rule.specs.Reading.{accepted, order1}
use Rattle.confidences.specs.Confidences.{signs_of}
use Rattle.confidences.proofs.Clean.{clean_values}
use Rattle.confidences.specs.Counts.{full_leaves}
use Rattle.confidences.specs.Blocks.{Nonzero}
use Rattle.confidences.proofs.Rounds.{bit_signs, reading_one, signs_word}
use Rattle.confidences.specs.Values.{Values}
use Rattle.value_orders.specs.Leaves.{Leaf, clean_test, is_some, sign_at}

-- ---- as the code tests it

and_chain : (s a b c : Bool) → ((s && a) && b) && c ≡ s && (a && (b && c))
and_chain true true b c = refl
and_chain true false b c = refl
and_chain false a b c = refl

and_swap : (a b c d : Bool) → (a && b) && (c && d) ≡ (a && c) && (b && d)
and_swap true true c d = refl
and_swap true false true d = refl
and_swap true false false d = refl
and_swap false b c d = refl

all_both : (n : ℕ) (f g : ℕ → Bool) → all_below n (λ i. f i && g i) ≡ all_below n f && all_below n g
unfolding total
all_both zero f g = refl
all_both (suc n) f g = ap (λ (b : Bool). b && (f n && g n)) (all_both n f g) ∙ and_swap (all_below n f) (all_below n g) (f n) (g n)

module _ (xs : List ℤ) (h : ℕ) where
  -- what is tested at place i of the last level: its sign and its partner's add up as those of place 0 do, and neither value is 0
  abbrev pub last_at : ℕ → Bool
  last_at i = eqb ((sign_at xs i + sign_at xs (h + i)) % 2) ((sign_at xs 0 + sign_at xs h) % 2) && (is_some xs i && is_some xs (h + i))

  pub last_more : (i : ℕ) (s a b c : Bool) → s ≡ all_below i last_at → a ≡ eqb ((sign_at xs i + sign_at xs (h + i)) % 2) ((sign_at xs 0 + sign_at xs h) % 2)
      → b ≡ is_some xs i → c ≡ is_some xs (h + i) → ((s && a) && b) && c ≡ all_below (i + 1) last_at
  last_more i s a b c es ea eb ec = and_chain s a b c ∙ ap (λ (z : Bool). s && z) (ap₂ ◌&&◌ ea (ap₂ ◌&&◌ eb ec)) ∙ all_more i last_at s es

  pub last_all : all_below h last_at ≡ repeats (sign_at xs) h && all_below (h + h) (is_some xs)
  unfolding repeats
  last_all =
      all_both h _ _
      ∙ ap (λ (z : Bool). repeats_below (sign_at xs) h h && z)
      (all_both h (is_some xs) (λ i. is_some xs (h + i)) ∙ sym (all_append h h (is_some xs)))

module _ (m : ℕ) (xs : List ℤ) where
  clean_test_lem : levels_test m (sign_at xs) && all_below (2 ^ m) (is_some xs) ≡ clean_test m xs
  unfolding clean_test
  clean_test_lem =
      ap (λ (z : Bool). z && all_below (2 ^ m) (is_some xs))
      (levels_test_lem m (signs_of m xs) (sign_at xs) (signs_word m xs) (λ p l. sym (bit_signs m xs p l)))

  pub clean_not : levels_test m (sign_at xs) ≡ false → false ≡ clean_test m xs
  clean_not e = rw (← clean_test_lem, e) refl

  pub clean_is : levels_test m (sign_at xs) ≡ true → all_below (2 ^ m) (is_some xs) ≡ clean_test m xs
  clean_is e = rw (← clean_test_lem, e) refl

  -- the last level and the values, where the levels below pass
  pub clean_last : (k h : ℕ) → m ≡ suc k → h ≡ 2 ^ k → levels_test k (sign_at xs) ≡ true
      → repeats (sign_at xs) h && all_below (h + h) (is_some xs) ≡ clean_test m xs
  unfolding levels_test
  clean_last k h em eh e =
      let double : h + h ≡ 2 ^ m = omega (arith, ap (λ (i : ℕ). 2 ^ i) em) in
      let last : repeats (sign_at xs) h ≡ levels_test m (sign_at xs) = rw (em, eh, e) refl in
      ap₂ ◌&&◌ last (ap (λ (n : ℕ). all_below n (is_some xs)) double) ∙ clean_test_lem

-- values that fill their list
module _ (m : ℕ) (xs : List ℤ) (some_places : 1 ≤ m) (few : m ≤ 10) (size : length xs ≡ 2 ^ m) (e : clean_test m xs ≡ true) where
  both : (codeword_test m 1 (signs_of m xs) ≡ true) × (all_below (2 ^ m) (is_some xs) ≡ true)
  unfolding clean_test
  both = both_true _ _ e

  some_at : Nonzero m xs
  some_at p l =
      let k : nat_abs (at xs p) ≡ 0 → ⊥ = eqb-false (nat_abs (at xs p)) 0 (not-true _ (all_true (2 ^ m) (is_some xs) both.1 p l)) in
      omega arith

  own : order1 m (at xs) ≡ accepted (signs_of m xs) 0 (full_leaves 1 m 1)
  own =
      sym (reading_one m 1 xs)
      ∙ clean_values 1 m 1 some_places few xs (record { size = size }) some_at (codeword_of_test m 1 _ (signs_word m xs) both.0)

  pub clean_leaf : Leaf (2 ^ m) (order1 m (at xs)) xs true
  clean_leaf =
      rw own
      (record {
        said = refl;
        word = record { each = λ q l. ap (λ (i : ℕ). constant_of (at xs i)) {x = 0 + q} {y = q} (omega arith) ∙ sym (bit_signs m xs q l) };
      })

pub values_fewer : {n k : ℕ} {xs : List ℤ} → k ≤ n → Values n xs → Values k xs
values_fewer l v = record { room = omega (arith, v.room); small = λ p h. v.small p (omega arith) }

-- values are numbers of 32 bits
pub values_marked : {n : ℕ} {xs : List ℤ} → Values n xs → Marked (λ x. FitsSigned w32 x) n xs
values_marked {xs = xs} v = record { room = v.room; each = λ p l. fits_32 (at xs p) (omega (arith, v.small p l)) }

-- The steps in place: the first half is added to the second, which is tested, and the first half is still there. Assumes nothing.
use Rattle.std.specs.Prelude.{ℕ, suc, ◌+◌, ◌-◌, ◌^◌, ◌≤◌, ◌≡◌, Bool, true, false, not, ◌&&◌, List, ◌++◌, ◌≢◌, drop, length, take}
use Rattle.std.proofs.Common.{sym, ap, ap₂, subst, ◌∙◌, arith, drop_at, take_all, take_at}
use Rattle.std.proofs.lemmas.Bool.{false≢true}
use borrow.Rule.Slice.PartMut.{put_mid, take_put}
use Rattle.code.proofs.Halves.{bit_first, bit_sum, word_first, word_sum}
use Rattle.code.proofs.TestStepLaws.{steps_full, steps_halves, steps_zero}
use Rattle.code.specs.TestSteps.{all_equal, first_half, steps_test, sum_halves}
use Rattle.coefficients.specs.TransformLaws.{parities, sum_bit}
use Rattle.words.specs.Butterflies.{Entries, butterflies}
use Rattle.words.specs.ButterflyLaws.{length-butterflies}
use Rattle.words.specs.SumLaws.{bit_tabulate}
use Rattle.words.specs.Word.{IsWord, bit}
use Rattle.words.proofs.WordLaws.{word_ext, word_tabulate}

-- ---- where the code calls itself no more

pub ends_equal : (m : ℕ) {r n : ℕ} (t : List ℕ) → r ≡ 0 → n ≡ 2 ^ m → all_equal n t ≡ steps_test m r t
ends_equal m t e size = rw (e, size) (sym (steps_zero m t))

pub ends_full : {m r : ℕ} (t : List ℕ) → r ≡ m → true ≡ steps_test m r t
ends_full {m} t e = rw e (sym (steps_full m t))

-- ---- the first half of a word added to its second

-- a word that has halves
with_halves : {m : ℕ} {t : List ℕ} → IsWord m t → suc (m - 1) ≡ m → IsWord (suc (m - 1)) t
with_halves {m} {t} hw up = subst (λ (x : ℕ). IsWord x t) (sym up) hw

pub halves_in : {m h : ℕ} {t : List ℕ} → IsWord m t → 1 ≤ m → h ≡ 2 ^ (m - 1) → Entries parities (h + h) 1 t
unfolding parities
halves_in {m} {h} {t} hw l e = record { size = omega (arith, e, (with_halves hw (omega arith)).size); room = record { each = hw.bits } }

added_halves : (m : ℕ) (t : List ℕ) → IsWord (suc m) t → butterflies parities (2 ^ m) t ≡ first_half m t ++ sum_halves m t
unfolding butterflies parities
added_halves m t hw =
    ap₂ ◌++◌
    (word_ext (word_tabulate m _ (λ p l. hw.bits p)) (word_first m t hw) (λ p l. bit_tabulate (2 ^ m) _ p l ∙ sym (bit_first m t hw p l)))
    (word_ext (word_tabulate m _ (λ p l. sum_bit (bit t p) (bit t (2 ^ m + p)))) (word_sum m t hw) (λ p l. bit_tabulate (2 ^ m) _ p l ∙ sym (bit_sum m t hw p l)))

-- ---- the code between its two calls of itself: the word t, and what it is after its first half was added to its second, xs

pub record Halving (m r h : ℕ) (t xs : List ℕ) : Type 0 where
  pub order : r ≤ m
  pub word : IsWord m t
  pub some : r ≢ 0
  pub other : r ≢ m
  pub size : h ≡ 2 ^ (m - 1)
  pub added : xs ≡ butterflies parities h t

module _ {m r h : ℕ} {t xs : List ℕ} (a : Halving m r h t xs) where
  up : suc (m - 1) ≡ m
  up = omega (arith, a.order, a.some)

  whole : IsWord (suc (m - 1)) t
  whole = with_halves a.word up

  halves : xs ≡ first_half (m - 1) t ++ sum_halves (m - 1) t
  halves = a.added ∙ rw a.size (added_halves (m - 1) t whole)

  first_size : length (first_half (m - 1) t) ≡ h
  first_size = (word_first (m - 1) t whole).size ∙ sym a.size

  pub halves_long : length xs ≡ h + h
  halves_long = ap length a.added ∙ length-butterflies parities h t

  steps_are : steps_test m r t ≡ steps_test (m - 1) (r - 1) (sum_halves (m - 1) t) && steps_test (m - 1) r (first_half (m - 1) t)
  steps_are = ap (λ (x : ℕ). steps_test x r t) (sym up) ∙ steps_halves (m - 1) r t a.some (λ e. a.other (e ∙ up))

  -- the part that is tested first
  sum_is : take (h + h - h) (drop h xs) ≡ sum_halves (m - 1) t
  sum_is =
      ap (λ (v : List ℕ). take (h + h - h) (drop h v)) halves
      ∙ ap (take (h + h - h)) (drop_at (first_half (m - 1) t) (sum_halves (m - 1) t) h first_size)
      ∙ take_all (h + h - h) (sum_halves (m - 1) t) (omega (arith, (word_sum (m - 1) t whole).size, a.size))

  pub sum_word : IsWord (m - 1) (take (h + h - h) (drop h xs))
  sum_word = rw sum_is (word_sum (m - 1) t whole)

  and_first : {b : Bool} → b ≡ steps_test (m - 1) (r - 1) (take (h + h - h) (drop h xs)) → b && steps_test (m - 1) r (first_half (m - 1) t) ≡ steps_test m r t
  and_first e = ap (λ (x : Bool). x && steps_test (m - 1) r (first_half (m - 1) t)) (e ∙ ap (steps_test (m - 1) (r - 1)) sum_is) ∙ sym steps_are

  pub sum_fails : (b : Bool) → b ≡ steps_test (m - 1) (r - 1) (take (h + h - h) (drop h xs)) → not b ≡ true → false ≡ steps_test m r t
  sum_fails true e n = absurd (false≢true n)
  sum_fails false e n = and_first e

  -- whatever the second half has come back as, the first is as it was
  module _ (ys : List ℕ) where
    whole_front : h - 0 ≡ h
    whole_front = omega arith

    first_is : take (h - 0) (drop 0 (put_mid h (h + h - h) xs ys)) ≡ first_half (m - 1) t
    first_is =
        ap (λ (x : ℕ). take x (put_mid h (h + h - h) xs ys)) whole_front
        ∙ take_put h (h + h - h) xs ys (omega (arith, halves_long))
        ∙ ap (take h) halves
        ∙ take_at (first_half (m - 1) t) (sum_halves (m - 1) t) h first_size

    pub first_word : IsWord (m - 1) (take (h - 0) (drop 0 (put_mid h (h + h - h) xs ys)))
    first_word = rw first_is (word_first (m - 1) t whole)

    pub first_decides : (b : Bool) {d : Bool} → b ≡ steps_test (m - 1) (r - 1) (take (h + h - h) (drop h xs)) → not b ≡ false
        → d ≡ steps_test (m - 1) r (take (h - 0) (drop 0 (put_mid h (h + h - h) xs ys))) → d ≡ steps_test m r t
    first_decides false e n g = absurd (false≢true (sym n))
    first_decides true e n g = g ∙ ap (steps_test (m - 1) r) first_is ∙ and_first e

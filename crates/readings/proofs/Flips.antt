-- A round's votes and flips in the area, against the definition. Assumes nothing.
use Prim.Native.Nat.{ℕ, suc, ◌+◌, ◌-◌, ◌%◌, ◌^◌, ◌≤◌, ◌<◌}
use native.Mathlib.Omega.{arith}
use mathlib.Core.Path.{◌≡◌, sym, ap, ap₂, subst, ◌∙◌}
use mathlib.Core.Bool.{true}
use mathlib.Core.List.{List}
use lib.Dec.{eqb}
use lib.ListN.{length}
use lib.Pow.{pow_pos}
use lib.IntN.{ℤ, pos, nat_abs}
use borrow.Author.Tests.{eqb-true}
use Rattle.words.specs.Sum.{all_below}
use Rattle.words.specs.SumLaws.{all_ext, all_true, bit_tabulate}
use Rattle.words.specs.Word.{bit, indicator, add_words, IsWord}
use Rattle.words.proofs.WordLaws.{word_add, word_bit, word_of_bits}
use Rattle.words.specs.Written.{Written}
use Rattle.area.specs.Area.{at, Front, word_of}
use Rattle.area.proofs.AreaLaws.{front_word, front_kept}
use Rattle.cosets.specs.Votes.{Tally}
use Rattle.rule.specs.Reading.{Outcome, votes, abstained, flipped, flips}
use Rattle.rule.proofs.Rounds.{flips_word, still, votes_cast}
use Rattle.flips.specs.Flips.{flip_of}

module _ (m : ℕ) (lower : List ℕ → Outcome) (w : List ℕ) where
  votes-lt : (p : ℕ) → votes m lower w p < 2 ^ suc m
  votes-lt p = omega (arith, pow_pos (suc m), votes_cast m lower w p)

  pub abstained-lt : abstained m lower w < 2 ^ suc m
  abstained-lt = omega (arith, pow_pos (suc m), votes_cast m lower w 0)

  bit-flips : (p : ℕ) → p < 2 ^ suc m → bit (flips m lower w) p ≡ indicator (flipped (votes m lower w p) (2 ^ suc m - 1) (abstained m lower w))
  unfolding flips
  bit-flips p l = bit_tabulate (2 ^ suc m) _ p l

-- the word w in the front of the area, and the votes on it
pub record Polled (m : ℕ) (lower : List ℕ → Outcome) (w : List ℕ) (xs : List ℤ) : Type 0 where
  pub word : Front (2 ^ suc m) w xs
  pub tally : (p : ℕ) → p < 2 ^ suc m → at xs (2 ^ suc m + p) ≡ pos (votes m lower w p)

module _ {m : ℕ} {lower : List ℕ → Outcome} {w : List ℕ} {xs : List ℤ} (polled : Polled m lower w xs) where
  pub polled_tally : Tally (2 ^ suc m) (2 ^ suc m) xs
  polled_tally = record {
    whole = λ p l. polled.tally p l ∙ ap (λ (z : ℤ). pos (nat_abs z)) (sym (polled.tally p l));
    few = λ p l. subst (λ (k : ℕ). k < 2 ^ suc m) (sym (ap nat_abs (polled.tally p l))) (votes-lt m lower w p);
  }

  abbrev flip : ℕ → ℕ
  flip = flip_of (2 ^ suc m) (abstained m lower w) xs

  flip_is : (p : ℕ) → p < 2 ^ suc m → flip p ≡ bit (flips m lower w) p
  flip_is p l =
      ap (λ (z : ℤ). indicator (flipped (nat_abs z) (2 ^ suc m - 1) (abstained m lower w))) (polled.tally p l) ∙ sym (bit-flips m lower w p l)

  pub still_is : all_below (2 ^ suc m) (λ p. eqb (flip p) 0) ≡ still m lower w
  still_is = all_ext (2 ^ suc m) _ _ (λ p l. ap (λ (x : ℕ). eqb x 0) (flip_is p l))

  -- the flips are made
  module _ {ys : List ℤ} (room : 2 ^ suc m ≤ length xs)
      (made : Written (pos 0) 0 (2 ^ suc m) (λ p. pos ((bit (word_of (2 ^ suc m) xs) p + flip p) % 2)) xs ys) where
    is_word : IsWord (suc m) w
    is_word = word_of_bits (suc m) w polled.word.size polled.word.bits

    at_flipped : (p : ℕ) → p < 2 ^ suc m → at ys p ≡ pos (bit (add_words w (flips m lower w)) p)
    at_flipped p l =
        ap (at ys) {x = p} {y = 0 + p} (omega arith)
        ∙ made.within p l
        ∙ ap pos (ap₂ (λ (u : List ℕ) (x : ℕ). (bit u p + x) % 2) (front_word room polled.word) (flip_is p l) ∙ sym (word_bit is_word (flips_word m lower w) p))

    pub word_flipped : Front (2 ^ suc m) (add_words w (flips m lower w)) ys
    word_flipped =
        let h = word_add is_word (flips_word m lower w) in
        record { size = h.size; each = at_flipped; bits = λ p l. h.bits p }

    -- nothing flipped
    pub word_settled : still m lower w ≡ true → Front (2 ^ suc m) w ys
    word_settled e =
        front_kept polled.word
        (λ p l.
        let none : bit (flips m lower w) p ≡ 0 = eqb-true (bit (flips m lower w) p) 0 (all_true (2 ^ suc m) _ e p l) in
        at_flipped p l ∙ ap pos (omega (arith, word_bit is_word (flips_word m lower w) p, is_word.bits p)) ∙ sym (polled.word.each p l))

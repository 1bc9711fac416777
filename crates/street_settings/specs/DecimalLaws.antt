-- Every number below 2^32 can be given: written in decimal it is read as itself. Assumes nothing.
use Rattle.std.specs.Prelude.{ℕ, zero, suc, ◌+◌, ◌-◌, ◌*◌, ◌/◌, ◌%◌, ◌^◌, ◌≤◌, ◌<◌, ◌≡◌, Some, List, [], ◌∷◌, ◌++◌, length, get_or}
use Rattle.std.proofs.Common.{lt_of_lt_of_le, arith, sym, ◌∙◌, subst, lit≤, length-append, get_or-append-add, le-leb, lt-ltb}
use Rattle.std.proofs.Math.Decide.{dec_lt}
use Rattle.std.proofs.Math.Path.{ap, ap₂}
use Rattle.std.proofs.Math.Bool.{true, ◌&&◌}
use Rattle.std.proofs.Math.ListN.{get_or-append}
use Rattle.words.specs.Sum.{all_below}
use Rattle.words.specs.SumLaws.{all_append, all_ext, all_more, all_none}
use Rattle.words.specs.Word.{bit}
use Rattle.text.specs.Numbers.{decimal}
use Rattle.text.specs.TextLaws.{decimal_more, decimal_small}
use Rattle.street_settings.specs.Settings.{all_digits, is_digit, kept32, number_in, value_of}
use Rattle.street_settings.specs.SettingLaws.{a_number, kept_small, value_more, value_none, value_suc}

-- ---- a text and one byte more

module _ (s : List ℕ) (d : ℕ) where
  abbrev more : List ℕ
  more = s ++ (d ∷ [])

  last : bit more (length s) ≡ d
  last = ap (λ (i : ℕ). get_or more i 0) (omega arith) ∙ get_or-append-add s (d ∷ []) 0 0

  front : (k : ℕ) → k ≤ length s → value_of more k ≡ value_of s k
  front zero h = sym (value_none more) ∙ value_none s
  front (suc k) h =
      value_suc more k ∙ ap₂ (λ (v b : ℕ). 10 * v + (b - 48)) (front k (omega arith)) (get_or-append s (d ∷ []) 0 k (omega arith)) ∙ sym (value_suc s k)

  long : length more ≡ length s + 1
  long = length-append s (d ∷ [])

  value_last : value_of more (length more) ≡ 10 * value_of s (length s) + (d - 48)
  value_last =
      ap (value_of more) long ∙ value_more more (length s) ∙ ap₂ (λ (v b : ℕ). 10 * v + (b - 48)) (front (length s) (omega arith)) last

  digits_last : all_digits s ≡ true → is_digit d ≡ true → all_digits more ≡ true
  unfolding all_digits
  digits_last h e =
      ap (λ (n : ℕ). all_below n (λ p. is_digit (bit more p))) long ∙ all_append (length s) 1 (λ p. is_digit (bit more p))
      ∙ ap₂ ◌&&◌ (all_ext (length s) _ (λ p. is_digit (bit s p)) (λ p l. ap is_digit (get_or-append s (d ∷ []) 0 p l)) ∙ h) (sym (all_more 0 (λ p. is_digit (bit more (length s + p))) true (all_none _)) ∙ ap is_digit (get_or-append-add s (d ∷ []) 0 0) ∙ e)

-- a digit of a number
digit_of : (d : ℕ) → d < 10 → is_digit (48 + d) ≡ true
digit_of d h = simp (le-leb 48 (48 + d) (omega arith), lt-ltb (48 + d) 58 (omega arith))

-- ---- a number in decimal

-- what its digits are, and what they say
record Written (n : ℕ) (s : List ℕ) : Type 0 where
  some : 0 < length s
  digits : all_digits s ≡ true
  value : value_of s (length s) ≡ n

no_digits_yet : all_digits [] ≡ true
unfolding all_digits
no_digits_yet = sym (all_none (λ p. is_digit (bit [] p)))

one_digit : (n : ℕ) → n < 10 → Written n ((48 + n) ∷ [])
one_digit n h = record {
  some = omega arith;
  digits = digits_last [] (48 + n) no_digits_yet (digit_of n h);
  value = value_last [] (48 + n) ∙ omega (arith, value_none []);
}

one_more : (n : ℕ) (s : List ℕ) → Written (n / 10) s → Written n (s ++ ((48 + n % 10) ∷ []))
one_more n s w = record {
  some = omega (arith, long s (48 + n % 10));
  digits = digits_last s (48 + n % 10) w.digits (digit_of (n % 10) (omega arith));
  value = value_last s (48 + n % 10) ∙ omega (arith, w.value);
}

written : (k n : ℕ) → n < 10 ^ suc k → Written n (decimal n)
written zero n h = subst (Written n) (sym (decimal_small n (omega arith))) (one_digit n (omega arith))
written (suc k) n h = elim (dec_lt n 10) [
  | yes l ↦ subst (Written n) (sym (decimal_small n l)) (one_digit n l)
  | no m ↦ subst (Written n) (sym (decimal_more n (omega arith))) (one_more n (decimal (n / 10)) (written k (n / 10) (omega arith)))
]

pub reads_decimal : (n : ℕ) → n < 2 ^ 32 → number_in (decimal n) ≡ Some n
reads_decimal n h =
    let w = written 9 n (lt_of_lt_of_le h (lit≤ tt)) in
    sym (a_number (decimal n) w.some w.digits) ∙ ap kept32 w.value ∙ kept_small n h

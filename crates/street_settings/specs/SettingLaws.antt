-- Laws of numbers in decimal digits, and of each case of an argument. Assumes nothing.
use Rattle.std.specs.Prelude.{ℕ, zero, suc, ◌+◌, ◌-◌, ◌*◌, ◌^◌, ◌≤◌, ◌<◌, ◌≡◌, refl, Option, Some, None, Result, Ok, Err, ok_or, true, false, List, length, bytes_eq}
use Rattle.std.proofs.Common.{add-one, arith, ap, eqb, subst, sym, ◌∙◌, Bool}
use Rattle.std.proofs.Math.Decide.{dec_lt}
use Rattle.std.proofs.lemmas.Slice.Eq.{bytes_eq-Decides}
use Rattle.std.proofs.lemmas.List.{ext_get_or}
use Rattle.std.specs.List.{list_all}
use Rattle.words.proofs.Chains.{all_places}
use Rattle.words.specs.SumLaws.{all_true, both_true, true_all}
use Rattle.words.specs.Word.{bit}
use borrow.Author.Tests.{eq-eqb, eqb-true, leb-true, le-ltb, lt-ltb, ltb-true}
use Rattle.street_settings.specs.Settings.{all_digits, asked, asked_by, is_digit, is_number, is_summary, kept32, number_in, same_bytes, value_of, with_number, with_summary}
use Rattle.street_settings.specs.declared.Asked.{Asked}
use Rattle.street_settings.specs.declared.Bad.{Bad}
use Rattle.street_settings.specs.declared.Bad.TheVariants.{NotNumber, TooMany}

pub value_none : (s : List ℕ) → 0 ≡ value_of s 0
unfolding value_of
value_none s = refl

pub value_suc : (s : List ℕ) (k : ℕ) → value_of s (suc k) ≡ 10 * value_of s k + (bit s k - 48)
unfolding value_of
value_suc s k = refl

pub value_more : (s : List ℕ) (k : ℕ) → value_of s (k + 1) ≡ 10 * value_of s k + (bit s k - 48)
value_more s k = rw add-one (value_suc s k)

-- more digits say no smaller a number
pub value_grows : (s : List ℕ) (j k : ℕ) → j ≤ k → value_of s j ≤ value_of s k
value_grows s j zero h = let e : value_of s j ≡ value_of s 0 = ap (value_of s) (omega arith) in omega arith
value_grows s j (suc k) h = elim (dec_lt k j) [
  | yes l ↦ let e : value_of s j ≡ value_of s (suc k) = ap (value_of s) (omega arith) in omega arith
  | no l ↦ omega (arith, value_suc s k, value_grows s j k (omega arith))
]

-- ---- digits

-- the library's test of all
pub digits_all : (s : List ℕ) → list_all is_digit s ≡ all_digits s
unfolding all_digits
digits_all s = all_places is_digit s

pub digit : (s : List ℕ) → all_digits s ≡ true → (p : ℕ) → p < length s → (48 ≤ bit s p) × (bit s p < 58)
unfolding all_digits
digit s h p l = let b = both_true _ _ (all_true (length s) (λ q. is_digit (bit s q)) h p l) in (leb-true _ _ b.0, ltb-true _ _ b.1)

-- ---- a number below 2^32

pub kept_small : (v : ℕ) → v < 2 ^ 32 → kept32 v ≡ Some v
kept_small v h = simp (lt-ltb v (2 ^ 32) h)

pub kept_great : (v : ℕ) → 2 ^ 32 ≤ v → None ≡ kept32 v
kept_great v h = simp (le-ltb v (2 ^ 32) h)

-- ---- what a text says

pub no_digits : (s : List ℕ) → length s ≡ 0 → None ≡ number_in s
unfolding number_in is_number
no_digits s h = simp (le-ltb 0 (length s) (omega arith))

module _ (s : List ℕ) (some : 0 < length s) where
  pub no_number : all_digits s ≡ false → None ≡ number_in s
  unfolding number_in is_number
  no_number h = simp (lt-ltb 0 (length s) some, h)

  pub a_number : all_digits s ≡ true → kept32 (value_of s (length s)) ≡ number_in s
  unfolding number_in is_number
  a_number h = simp (lt-ltb 0 (length s) some, h)

-- ---- what an argument asks

same_self : (a : List ℕ) → same_bytes a a ≡ true
same_self a = rw (eq-eqb (length a) (length a) refl) (true_all (length a) _ (λ p h. eq-eqb (bit a p) (bit a p) refl))

same_equal : (a b : List ℕ) → same_bytes a b ≡ true → a ≡ b
same_equal a b e =
    let t = both_true _ _ e in
    ext_get_or 0 a b (eqb-true (length a) (length b) t.0) (λ i l. eqb-true (bit a i) (bit b i) (all_true (length a) (λ p. eqb (bit a p) (bit b p)) t.1 i l))

one_test : (x y : Bool) → (x ≡ true → y ≡ true) → (y ≡ true → x ≡ true) → x ≡ y
one_test true y f g = sym (f refl)
one_test false true f g = g refl
one_test false false f g = refl

-- slices' own test
pub bytes_equal : (a b : List ℕ) {t : List ℕ} → t ≡ b → bytes_eq a t ≡ same_bytes a b
bytes_equal a b e =
    let d = bytes_eq-Decides a b in
    ap (bytes_eq a) e ∙ one_test _ _ (λ e. subst (λ (s : List ℕ). same_bytes a s ≡ true) (d.0 e) (same_self a)) (λ e. d.1 (same_equal a b e))

pub asks_summary : (a : Asked) (s : List ℕ) → is_summary s ≡ true → Ok (record { settings = with_summary a.settings; numbers = a.numbers }) ≡ asked a s
unfolding asked
asks_summary a s h = rw h

pub asks_number : (a : Asked) (s : List ℕ) (n : Option ℕ) → is_summary s ≡ false → n ≡ number_in s → asked_by a n ≡ asked a s
unfolding asked
asks_number a s n h e = rw (h, e)

abbrev passed_on : Result ℕ Bad → Result Asked Bad
passed_on (Ok v) = Err NotNumber
passed_on (Err x) = Err x

pub not_number : (a : Asked) (n : Option ℕ) (x : Bad) → n ≡ None → Err x ≡ ok_or n NotNumber → Err x ≡ asked_by a n
not_number a n x e f = rw e (ap passed_on (f ∙ ap (λ (o : Option ℕ). ok_or o NotNumber) e))

module _ (a : Asked) (v : ℕ) where
  pub one_too_many : 4 < a.numbers → Err TooMany ≡ asked_by a (Some v)
  one_too_many h = rw (lt-ltb 4 a.numbers h)

  pub one_more : a.numbers ≤ 4 → Ok (record { settings = with_number a.settings a.numbers v; numbers = a.numbers + 1 }) ≡ asked_by a (Some v)
  one_more h = rw (le-ltb 4 a.numbers h)

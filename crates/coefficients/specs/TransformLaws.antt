-- Sums modulo 2 by halves give the coefficient of every mask. Assumes nothing.
use Rattle.std.specs.Prelude.{ℕ, ◌+◌, ◌%◌, ◌^◌, ◌<◌, ◌≡◌, refl, List, length}
use Rattle.std.proofs.Common.{sym, ap, ◌∙◌, arith}
use Rattle.words.specs.Butterflies.{Rule, Entries, entry, halved}
use Rattle.words.specs.ButterflyLaws.{ByHalves, halved-entry, halved_entries}
use Rattle.words.specs.Sum.{total, tabulate}
use Rattle.words.specs.SumLaws.{bit_tabulate}
use Rattle.words.specs.Word.{IsWord, bit}
use Rattle.words.proofs.WordLaws.{word_ext, word_tabulate, unmod}
use Rattle.code.specs.Code.{coefficient}
use Rattle.code.proofs.Codewords.{coefficient-lt}
use Rattle.code.specs.Degree.{coef, coef_low, coef_top, coef_plus, second}

-- ---- coefficients by halves

add_parities : (a b c d : ℕ) → a % 2 ≡ c → b % 2 ≡ d → (a + b) % 2 % 2 ≡ (c + d) % 2
add_parities a b c d p q = rw (← p, ← q) (simp unmod (omega arith))

coef_start : (f : ℕ → ℕ) → coef 0 f 0 ≡ f 0 % 2
unfolding coef total
coef_start f = omega arith

-- entries whose value is kept in the first half and added modulo 2 in the second
module _ {A : Type 0} (R : Rule A) (val : A → ℕ) (keep : (x y : A) → val (R.low x y) ≡ val x) (add : (x y : A) → val (R.high x y) ≡ (val x + val y) % 2) where
  coef_by_halves : ByHalves R (λ x. val x % 2) coef
  coef_by_halves = record {
    start = λ x f e. omega (arith, coef_start f);
    low = λ m f u h x y ex ey. ap (λ (i : ℕ). i % 2) (keep x y) ∙ ex ∙ sym (coef_low m f u h);
    high = λ m f u h x y ex ey.
        ap (λ (i : ℕ). i % 2) (add x y) ∙ add_parities (val x) (val y) _ _ ex ey ∙ sym (coef_top m f u h ∙ coef_plus m f (second m f) u);
  }

  -- the transform of a word of bits
  pub transform_coef :
      (m : ℕ) (a : List A) (f : ℕ → ℕ) → length a ≡ 2 ^ m → ((p : ℕ) → p < 2 ^ m → val (entry R a p) ≡ f p) → ((p : ℕ) → f p < 2)
      → (u : ℕ) → u < 2 ^ m → val (entry R (halved R m a) u) % 2 ≡ coef m f u
  transform_coef m a f e v b = halved-entry R coef_by_halves m a f e (λ p l. omega (arith, v p l, b p))

-- ---- bytes

pub sum_bit : (x y : ℕ) → (x + y) % 2 < 2
sum_bit x y = omega arith

-- words of bytes
unfoldable pub parities : Rule ℕ
parities = record {
  none = 0;
  low = λ x y. x;
  high = λ x y. (x + y) % 2;
  Room = λ j x. x < 2;
  room_none = λ j. omega arith;
  room_low = λ j x y hx hy. hx;
  room_high = λ j x y hx hy. sum_bit x y;
  room_less = λ j k x l h. h;
}

pub word_entries : {m : ℕ} {w : List ℕ} → IsWord m w → Entries parities (2 ^ m) m w
unfolding parities
word_entries h = record { size = h.size; room = record { each = h.bits } }

pub halved-coefficient : (m : ℕ) (w : List ℕ) → IsWord m w → halved parities m w ≡ tabulate (2 ^ m) (coefficient m w)
unfolding parities coefficient coef
halved-coefficient m w h =
    let e = halved_entries parities m (word_entries h) in
    word_ext
    (record { size = e.size; bits = e.room.each })
    (word_tabulate m (coefficient m w) (λ u l. coefficient-lt m w u))
    (λ u l.
    omega (arith, e.room.each u, transform_coef parities (λ x. x) (λ x y. refl) (λ x y. refl) m w (bit w) h.size (λ p g. refl) h.bits u l)
    ∙ sym (bit_tabulate (2 ^ m) (coefficient m w) u l))

-- How rounds of confidences end in the area. Assumes nothing.
use Rattle.std.specs.Prelude.{ℕ, Some, nat_eq, position, ◌+◌, ◌^◌, ◌≤◌, ◌<◌, ◌≡◌, refl, true, false, List, length, ℤ, pos, nat_abs}
use Rattle.std.proofs.Common.{sym, ap₂, ◌∙◌, arith, get_or-take, length-take-le}
use Rattle.std.proofs.Math.Path.{ap}
use Rattle.std.proofs.Math.Dec.{eqb}
use Rattle.words.specs.Sum.{first_where}
use Rattle.words.specs.Written.{Written}
use Rattle.area.specs.Area.{at, Bits, Front, SameFront, word_of}
use Rattle.area.proofs.AreaLaws.{front_bits, front_kept, front_word}
use Rattle.area.specs.Numbers.{stored, stored-eq}
use Rattle.code.specs.Code.{codeword_test}
use Rattle.hadamard.specs.Correlation.{constant_of}
use Rattle.told.specs.Told.{Read, Verdict, as_accepted, as_refused}
use Rattle.told.specs.declared.Noise.TheVariants.{Erased, Unsettled}
use Rattle.confidences.specs.Confidences.{cut, ended, lowest_zero, signs_of}
use Rattle.confidences.proofs.Rounds.{bit_signs, signs_word, ended_zero, ended_codeword, ended_other}
use Rattle.confidences.proofs.Signs.{cut_size}
use Rattle.confidences.specs.Values.{front_of, Sums}
use Rattle.value_orders.specs.FirstPlaces.{found_some, found_none}
use Rattle.value_orders.specs.Leaves.{place_in}

-- ---- a sum, where p of the new values were written

module _ {n p : ℕ} {f : ℕ → ℤ} {xs ys : List ℤ} (sums : Sums n xs) (w : Written (pos 0) 0 p f xs ys) (l : p < n) where
  ahead : at ys (n + p) ≡ at xs (n + p)
  ahead = w.above (n + p) (omega arith)

  sum_read : stored (at ys (n + p)) ≡ at xs (n + p)
  sum_read = stored-eq (at ys (n + p)) (omega (arith, ap nat_abs ahead, sums.small p l)) ∙ ahead

  pub sum_small : nat_abs (stored (at ys (n + p))) < 2 ^ 31
  sum_small = omega (arith, ap nat_abs sum_read, sums.small p l)

  pub cut_written : (z : ℤ) → z ≡ cut (stored (at ys (n + p))) → stored z ≡ cut (at xs (n + p))
  cut_written z e = stored-eq z (omega (arith, ap nat_abs e, cut_size (stored (at ys (n + p))))) ∙ e ∙ ap cut sum_read

-- ---- the end

-- what it tells: its answer, and the place
abbrev pub Ends : ℕ → ℕ → ℕ → ℕ → List ℤ → List ℤ → Verdict → ℕ → Type 0
Ends m r k l x ys a p = Read (2 ^ m) (ended m r x k l) ys a × (p ≡ place_in (ended m r x k l) (lowest_zero m x))

module _ (m r k l : ℕ) (xs : List ℤ) where
  abbrev x : List ℤ
  x = front_of (2 ^ m) xs

  -- the place that was looked for in the area
  module _ {n : ℕ} (size : n ≡ 2 ^ m) (room : 2 ^ m ≤ length xs) where
    front_long : length (front_of n xs) ≡ 2 ^ m
    front_long = length-take-le n xs (omega (arith, size)) ∙ size

    looked : first_where (length (front_of n xs)) (λ p. eqb (nat_abs (at (front_of n xs) p)) 0) ≡ lowest_zero m x
    unfolding lowest_zero
    looked = ap₂ (λ (i j : ℕ). first_where i (λ p. eqb (nat_abs (at (front_of j xs) p)) 0)) front_long size

    pub zero_some : {p : ℕ} → position (λ z. nat_eq (nat_abs z) 0) (front_of n xs) ≡ Some p → (p ≡ lowest_zero m x) × (p < 2 ^ m)
    zero_some e = let found = found_some _ _ e in (found.1 ∙ looked, omega (arith, found.0, front_long))

    pub zero_none : ((p : ℕ) → position (λ z. nat_eq (nat_abs z) 0) (front_of n xs) ≡ Some p → ⊥) → 2 ^ m ≤ lowest_zero m x
    zero_none e = omega (arith, found_none (λ (z : ℤ). nat_eq (nat_abs z) 0) (front_of n xs) e, front_long, looked)

  -- a place of value 0
  pub ends_erased : {p : ℕ} {ys : List ℤ} → p ≡ lowest_zero m x → p < 2 ^ m → Ends m r k l x ys (as_refused Erased k l) p
  ends_erased e h = rw (ended_zero m r x k l (omega (arith, e))) (record { said = refl; word = tt }, e)

  -- none
  module _ (none : 2 ^ m ≤ lowest_zero m x) (room : 2 ^ m ≤ length xs) {ys : List ℤ}
      (written : Written (pos 0) 0 (2 ^ m) (λ p. pos (constant_of (at xs p))) xs ys) where
    signs_front : Front (2 ^ m) (signs_of m x) ys
    signs_front =
        let w = signs_word m x in
        record {
          size = w.size;
          each = λ p h.
              ap (at ys) {x = p} {y = 0 + p} (omega arith) ∙ written.within p h
              ∙ ap pos (ap constant_of (sym (get_or-take (2 ^ m) xs p (pos 0) h)) ∙ sym (bit_signs m x p h));
          bits = λ p h. w.bits p;
        }

    room_here : 2 ^ m ≤ length ys
    room_here = omega (arith, written.long)

    pub signs_bits : Bits (2 ^ m) ys
    signs_bits = front_bits room_here signs_front

    word_is : word_of (2 ^ m) ys ≡ signs_of m x
    word_is = front_word room_here signs_front

    module _ {zs : List ℤ} (kept : SameFront (2 ^ m) ys zs) where
      pub ends_accepted : codeword_test m r (word_of (2 ^ m) ys) ≡ true → Ends m r k l x zs (as_accepted k l) 0
      ends_accepted e = rw (ended_codeword m r x k l none (rw word_is at e)) (record { said = refl; word = front_kept signs_front kept.same }, refl)

      pub ends_unsettled : codeword_test m r (word_of (2 ^ m) ys) ≡ false → Ends m r k l x zs (as_refused Unsettled k l) 0
      ends_unsettled e = rw (ended_other m r x k l none (rw word_is at e)) (record { said = refl; word = tt }, refl)

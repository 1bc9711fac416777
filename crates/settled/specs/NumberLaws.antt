-- The codeword test of a word in the area of numbers: its coefficients by halves. Assumes nothing.
use Rattle.std.specs.Prelude.{ℕ, ◌+◌, ◌-◌, ◌^◌, ◌≤◌, ◌<◌, Bool, ◌≡◌, refl, eqb, leb, ℤ, pos, length, take, drop}
use Rattle.std.proofs.Math.Bool.{true, cond}
use Rattle.std.proofs.Math.Path.{sym, ap}
use Rattle.std.proofs.Common.{◌∙◌, pow_mono}
use mathlib.Core.List.{List}
use Rattle.std.proofs.Math.Logic.{⊎_elim}
use native.Mathlib.Omega.{arith}
use borrow.Rule.Slice.PartMut.{put_mid}
use Rattle.std.proofs.Math.IntN.{nat_abs}
use Rattle.std.proofs.Math.ListN.{get_or-eq_default}
use Rattle.area.specs.Area.{at, size_at, Bits, zero_bit, word_of}
use Rattle.area.proofs.AreaLaws.{bit_lt, bit-word_of, word_of_word}
use Rattle.words.specs.Butterflies.{Entries, halved}
use Rattle.words.specs.ButterflyLaws.{halved_entries}
use Rattle.words.specs.SumLaws.{all_ext, le_or_lt}
use Rattle.words.specs.Word.{bit}
use Rattle.words.specs.Parts.{at-part_of, part_length, back_length, back_below, back_part}
use Rattle.words.specs.Written.{Written}
use Rattle.code.specs.Code.{codeword_test, coefficient, degree, low_test}
use Rattle.code.specs.Degree.{coef}
use Rattle.settled.specs.Numbers.{TestedIn}
use Rattle.coefficients.specs.TransformLaws.{transform_coef}
use Rattle.parities.specs.Parities.{number_parities}

-- a holds the word that is in the front of xs
module _ (m : ℕ) (xs a : List ℤ) (b : Bits (2 ^ m) xs) (size : length a ≡ 2 ^ m) (same : (p : ℕ) → p < 2 ^ m → at a p ≡ at xs p) where
  pub number_entries : Entries number_parities (2 ^ m) m a
  unfolding number_parities
  number_entries = record {
    size = size;
    room = record {
      each = λ i. ⊎_elim
          (λ (l : 2 ^ m ≤ i). rw (get_or-eq_default a (pos 0) {n = i} (omega arith)) zero_bit)
          (λ (l : i < 2 ^ m). rw (same i l) (b.bits i l))
          (le_or_lt (2 ^ m) i);
    };
  }

  -- its transform holds the word's coefficients
  size_coefficient : (u : ℕ) → u < 2 ^ m → size_at (halved number_parities m a) u ≡ coefficient m (word_of (2 ^ m) xs) u
  unfolding number_parities coefficient coef
  size_coefficient u l =
      omega (
        arith,
        bit_lt ((halved_entries number_parities m number_entries).room.each u),
        transform_coef number_parities nat_abs (λ x y. refl) (λ x y. refl) m a (bit (word_of (2 ^ m) xs)) size
            (λ p h. ap nat_abs (same p h) ∙ sym (bit-word_of (2 ^ m) xs p h)) (word_of_word b).bits u l,
      )

  pub number_test : (r : ℕ) → low_test r (size_at (halved number_parities m a)) (2 ^ m) ≡ codeword_test m r (word_of (2 ^ m) xs)
  unfolding codeword_test low_test
  number_test r = all_ext (2 ^ m) _ _ (λ u l. ap (λ (x : ℕ). cond (leb (degree u) r) true (eqb x 0)) (size_coefficient u l))

-- the test in the area: the word is copied from the front of xs to the next n numbers of ys, and these are transformed
module _ (m n : ℕ) (xs ys : List ℤ) (en : n ≡ 2 ^ m) (long : n + n ≤ length xs) (b : Bits (2 ^ m) xs) (w : Written (pos 0) n n (at xs) xs ys) where
  k : ℕ
  k = n + n - n

  ek : k ≡ 2 ^ m
  unfolding k
  ek = omega arith

  room : n + k ≤ length ys
  room = omega (arith, ek, w.long)

  copy : List ℤ
  copy = take k (drop n ys)

  copy-length : length copy ≡ 2 ^ m
  unfolding copy
  copy-length = part_length (pos 0) n k ys room ∙ ek

  copy_same : (p : ℕ) → p < 2 ^ m → at copy p ≡ at xs p
  unfolding copy
  copy_same p l = at-part_of (pos 0) n k ys room p (omega (arith, ek)) ∙ w.within p (omega arith)

  pub copy_entries : Entries number_parities (2 ^ m) m (take (n + n - n) (drop n ys))
  unfolding copy k
  copy_entries = number_entries m xs copy b copy-length copy_same

  module _ (v : List ℤ) (ev : v ≡ halved number_parities m (take (n + n - n) (drop n ys))) where
    done : Entries number_parities (2 ^ m) 0 v
    done = rw ev (halved_entries number_parities m copy_entries)

    size : length v ≡ k
    size = done.size ∙ sym ek

    again : take (n + n - n) (drop n (put_mid n (n + n - n) ys v)) ≡ v
    unfolding k
    again = back_part (pos 0) n k ys room v size

    pub work_bits :
        m ≤ 10
        → (length (take (n + n - n) (drop n (put_mid n (n + n - n) ys v))) ≤ 1024)
        × Bits (length (take (n + n - n) (drop n (put_mid n (n + n - n) ys v)))) (take (n + n - n) (drop n (put_mid n (n + n - n) ys v)))
    unfolding number_parities
    work_bits h = rw again (rw done.size (pow_mono {j = 10} h), record { room = omega arith; bits = λ p l. done.room.each p })

    pub area_tested :
        (r : ℕ) (t : Bool)
        → t ≡ low_test r (size_at (take (n + n - n) (drop n (put_mid n (n + n - n) ys v)))) (length (take (n + n - n) (drop n (put_mid n (n + n - n) ys v))))
        → TestedIn m r xs (put_mid n (n + n - n) ys v) t
    unfolding k copy
    area_tested r t et = record {
      answer =
          et ∙ ap (λ (z : List ℤ). low_test r (size_at z) (length z)) again ∙ ap (low_test r (size_at v)) done.size
          ∙ ap (λ (z : List ℤ). low_test r (size_at z) (2 ^ m)) ev
          ∙ number_test m xs copy b copy-length copy_same r;
      kept = record {
        long = back_length (pos 0) n k ys room v size ∙ w.long;
        same = λ p l. back_below (pos 0) n k ys room v size p (omega arith) ∙ w.below p (omega arith);
      };
    }

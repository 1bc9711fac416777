-- Values of one magnitude, at orders 0 and 1: the answer is the bit decoder's, to the word of the signs. Assumes nothing.
use Prim.Native.Nat.{ℕ, zero, suc, ◌*◌, ◌%◌, ◌^◌, ◌≤◌, ◌<◌}
use Rattle.std.specs.Prelude.{◌≡◌, refl, List, ◌++◌, ℤ, negsuc, neg_ℤ, nat_abs, ◌+ℤ◌, ◌*ℤ◌, length}
use Rattle.std.proofs.Common.{sym, ap₂, ◌∙◌, ⊎_elim, mul-zero, mul-one, mul-pos, mul-le-mul_left, arith, pow_pos, le-leb}
use Rattle.std.proofs.Math.Path.{ap}
use Rattle.std.proofs.Math.Decide.{dec_lt}
use Rattle.std.proofs.Math.Nat.{mul-lt-mul_of_pos_left}
use Rattle.std.specs.Int.Bits.{bit_and}
use Rattle.std.specs.Int.Count.{ones}
use Rattle.std.proofs.Math.IntN.{pos, zero-*ℤ, suc_ℤ-*ℤ, neg_ℤ-neg_ℤ}
use Rattle.std.proofs.Math.ListN.{get_or-eq_default}
use Rattle.words.specs.Sum.{sum_below_ℤ, total}
use Rattle.words.specs.SumLaws.{sum_ℤ_ext}
use Rattle.words.specs.Word.{IsWord, bit}
use Rattle.words.proofs.WordLaws.{word_ext}
use Rattle.area.specs.Area.{at}
use Rattle.area.specs.Numbers.{nat_abs_neg}
use Rattle.refusals.proofs.CheckLaws.{bits_pass, no_more, passes, rest_passes, rest_same}
use Rattle.refusals.specs.Refusals.{Check, byte_checks, code_checks, first_refusal}
use Rattle.hadamard.specs.Correlation.{affine, constant_of, correlation, sign, signed, values}
use Rattle.hadamard.specs.CorrelationLaws.{nat_abs-signed, swap4}
use Rattle.hadamard.specs.Peak.{Alone, Shared, peak}
use Rattle.rule.specs.Decoding.{after, buffer_checks, decode_call, limit_checks, limited, size_checks}
use Rattle.rule.proofs.DecodingLaws.{after_same}
use Rattle.rule.proofs.Order0.{order0-correlation}
use Rattle.rule.proofs.Order1.{order1_alone, order1_shared, sizes}
use Rattle.rule.specs.Reading.{Outcome, accepted, by_sum, order0, order1}
use Rattle.rule.specs.Reading as rule
use Rattle.confidences.specs.Answers.{confidence_call, lowest_outside, value_checks}
use Rattle.confidences.specs.Confidences.{greatest, reading, signs_of}
use Rattle.confidences.specs.InRange.{InRange}
use Rattle.confidences.proofs.Range.{range_passes}
use Rattle.confidences.proofs.Rounds.{bit_signs, signs_word}
use Rattle.confidences.proofs.Signs.{by_negative, by_positive}
use Rattle.confidences.specs.OneMagnitude.{OneMagnitude}

-- ---- multiplying by v

times_add : (v : ℕ) (y z : ℤ) → pos v *ℤ (y +ℤ z) ≡ pos v *ℤ y +ℤ pos v *ℤ z
times_add zero y z = zero-*ℤ (y +ℤ z) ∙ sym (ap₂ ◌+ℤ◌ (zero-*ℤ y) (zero-*ℤ z))
times_add (suc v) y z =
    suc_ℤ-*ℤ (pos v) (y +ℤ z) ∙ ap (λ (a : ℤ). a +ℤ (y +ℤ z)) (times_add v y z) ∙ swap4 (pos v *ℤ y) (pos v *ℤ z) y z
    ∙ sym (ap₂ ◌+ℤ◌ (suc_ℤ-*ℤ (pos v) y) (suc_ℤ-*ℤ (pos v) z))

times_zero : (v : ℕ) → pos v *ℤ pos 0 ≡ pos 0
times_zero v = ap pos (mul-zero v)

times_signed : (v t : ℕ) (z : ℤ) → signed t (pos v *ℤ z) ≡ pos v *ℤ signed t z
times_signed v zero z = refl
times_signed v (suc t) (pos zero) = ap neg_ℤ (times_zero v) ∙ sym (times_zero v)
times_signed v (suc t) (pos (suc n)) = refl
times_signed v (suc t) (negsuc n) = neg_ℤ-neg_ℤ _

times_sum : (n v : ℕ) (f : ℕ → ℤ) → sum_below_ℤ n (λ p. pos v *ℤ f p) ≡ pos v *ℤ sum_below_ℤ n f
unfolding total
times_sum zero v f = sym (times_zero v)
times_sum (suc n) v f = ap (λ (a : ℤ). a +ℤ pos v *ℤ f n) (times_sum n v f) ∙ sym (times_add v (sum_below_ℤ n f) (f n))

times_size : (v : ℕ) (z : ℤ) → nat_abs (pos v *ℤ z) ≡ v * nat_abs z
times_size v (pos n) = refl
times_size v (negsuc n) = nat_abs_neg (pos (v * suc n))

-- a value of magnitude v
sign_times : (v b : ℕ) → signed b (pos v) ≡ pos v *ℤ sign b
sign_times v zero = ap pos (sym (mul-one v))
sign_times v (suc b) = ap (λ (n : ℕ). neg_ℤ (pos n)) (sym (mul-one v))

-- a positive factor keeps the sign
module _ (v : ℕ) (h : 0 < v) where
  negative : (n : ℕ) → 0 < n → constant_of (neg_ℤ (pos n)) ≡ 1
  negative zero l = absurd (omega arith)
  negative (suc n) l = refl

  times_constant : (z : ℤ) → constant_of (pos v *ℤ z) ≡ constant_of z
  times_constant (pos n) = refl
  times_constant (negsuc n) = negative (v * suc n) (mul-pos h (omega arith))

  -- order 0
  times_by : (m : ℕ) (z : ℤ) → by_sum m (pos v *ℤ z) ≡ by_sum m z
  times_by m (pos zero) = ap (by_sum m) (times_zero v)
  times_by m (pos (suc n)) = by_positive m (v * suc n) (mul-pos h (omega arith))
  times_by m (negsuc n) = by_negative m (v * suc n) (mul-pos h (omega arith))

  -- values of one magnitude have v times the correlations of the signs
  module _ (m : ℕ) (w : List ℕ) (x : List ℤ) (one : OneMagnitude m v w x) where
    times_correlation : (u : ℕ) → correlation m (at x) u ≡ pos v *ℤ correlation m (values w) u
    unfolding correlation
    times_correlation u =
        sum_ℤ_ext (2 ^ m) _ (λ p. pos v *ℤ signed (ones (bit_and u p) % 2) (values w p))
        (λ p l. let t : ℕ = ones (bit_and u p) % 2 in ap (signed t) (one.each p l ∙ sign_times v (bit w p)) ∙ times_signed v t (values w p))
        ∙ times_sum (2 ^ m) v _

    same_zero : order0 m (at x) ≡ order0 m (values w)
    same_zero = order0-correlation m (at x) ∙ ap (by_sum m) (times_correlation 0) ∙ times_by m (correlation m (values w) 0) ∙ sym (order0-correlation m (values w))

    -- order 1
    size_is : (u : ℕ) → sizes m (at x) u ≡ v * sizes m (values w) u
    size_is u = ap nat_abs (times_correlation u) ∙ times_size v (correlation m (values w) u)

    alone : {u : ℕ} → Alone (2 ^ m) (sizes m (values w)) u → Alone (2 ^ m) (sizes m (at x)) u
    alone {u} a = record {
      below = a.below;
      others = λ y l ne. omega (arith, size_is y, size_is u, mul-lt-mul_of_pos_left (a.others y l ne) h);
    }

    shared : Shared (2 ^ m) (sizes m (values w)) → Shared (2 ^ m) (sizes m (at x))
    shared s = record {
      first = s.first;
      second = s.second;
      first_below = s.first_below;
      second_below = s.second_below;
      apart = s.apart;
      equal = size_is s.first ∙ ap (λ (n : ℕ). v * n) s.equal ∙ sym (size_is s.second);
      most = λ y l. omega (arith, size_is y, size_is s.first, mul-le-mul_left v (s.most y l));
    }

    alone_same : {u : ℕ} → Alone (2 ^ m) (sizes m (values w)) u → order1 m (at x) ≡ order1 m (values w)
    alone_same {u} a =
        order1_alone m (at x) (alone a)
        ∙ ap (λ (t : ℕ). accepted (affine m u t) 0 1) (ap constant_of (times_correlation u) ∙ times_constant (correlation m (values w) u))
        ∙ sym (order1_alone m (values w) a)

    same_one : order1 m (at x) ≡ order1 m (values w)
    same_one =
        ⊎_elim alone_same (λ s. order1_shared m (at x) (shared s) ∙ sym (order1_shared m (values w) s))
        (peak (2 ^ m) (sizes m (values w)) (pow_pos m))

    reading_same : (r limit : ℕ) → r ≤ 1 → reading r m limit x ≡ rule.reading r m limit w
    unfolding reading rule.reading
    reading_same zero limit l = same_zero
    reading_same (suc zero) limit l = same_one
    reading_same (suc (suc r)) limit l = absurd (omega arith)

    -- ---- calls

    pub one_signs : IsWord m w → signs_of m x ≡ w
    one_signs hw =
        word_ext (signs_word m x) hw
        (λ p l. bit_signs m x p l ∙ ap constant_of (one.each p l ∙ sign_times v (bit w p)) ∙ times_constant (sign (bit w p)) ∙ sign_bit (bit w p) (hw.bits p))
      where
        sign_bit : (b : ℕ) → b < 2 → constant_of (sign b) ≡ b
        sign_bit zero k = refl
        sign_bit (suc zero) k = refl
        sign_bit (suc (suc b)) k = absurd (omega arith)

    in_range : v ≤ greatest → InRange x
    in_range most = record {
      small = λ p. elim (dec_lt p (2 ^ m)) [
        | yes l ↦ omega (arith, ap nat_abs (one.each p l), nat_abs-signed (bit w p) (pos v))
        | no k ↦ omega (arith, ap nat_abs (get_or-eq_default x (pos 0) {n = p} (omega (arith, one.block.size))))
      ];
    }

    checks_same : v ≤ greatest → IsWord m w → (room area : ℕ) → first_refusal (value_checks m x room area) ≡ first_refusal (buffer_checks m w room area)
    checks_same most hw room area =
        let sizes : List Check = size_checks (2 ^ m) (8 * 2 ^ m) (length x) room area in
        rest_passes sizes _ (passes 18 _ _ (le-leb (length x) (lowest_outside x) (range_passes x (in_range most))) no_more)
        ∙ sym (rest_passes sizes (byte_checks w) (bits_pass w hw.bits))
        ∙ ap (λ (n : ℕ). first_refusal (size_checks (2 ^ m) (8 * 2 ^ m) n room area ++ byte_checks w)) (one.block.size ∙ sym hw.size)

    -- the bit decoder's answer
    pub one_magnitude : v ≤ greatest → IsWord m w → (r rounds leaves room area : ℕ) → r ≤ 1
        → confidence_call m r rounds leaves x room area ≡ decode_call m r rounds leaves w room area
    unfolding confidence_call decode_call
    one_magnitude most hw r rounds leaves room area l =
        after_same (code_checks m r ++ limit_checks rounds leaves ++ value_checks m x room area) (code_checks m r ++ limit_checks rounds leaves ++ buffer_checks m w room area) _
        (rest_same (code_checks m r ++ limit_checks rounds leaves) (value_checks m x room area) (buffer_checks m w room area) (checks_same most hw room area))
        ∙ ap (λ (o : Outcome). after (code_checks m r ++ limit_checks rounds leaves ++ buffer_checks m w room area) (limited leaves o)) (reading_same r rounds l)

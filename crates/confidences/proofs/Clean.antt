-- Values whose signs are a codeword, and none of them 0, are read as that codeword, whatever their magnitudes. Assumes nothing.
use Prim.Native.Nat.{ℕ, zero, suc, ◌+◌, ◌-◌, ◌*◌, ◌%◌, ◌^◌, ◌≤◌, ◌<◌, min}
use Rattle.std.specs.Prelude.{◌≡◌, refl, Bool, true, false, cond, List, [], ◌++◌, ◌≢◌, ltb, ℤ, negsuc, neg_ℤ, nat_abs, ◌+ℤ◌, length}
use Rattle.std.proofs.Common.{sym, subst, ◌∙◌, add-zero, pow_pos, eqb-true, le-leb, ltb-true}
use Rattle.std.proofs.Math.Path.{ap, ap₂}
use Rattle.std.proofs.Math.Decide.{dec_lt}
use native.Mathlib.Omega.{arith}
use Rattle.std.specs.Int.Bits.{bit_and, bit_xor, and_zero_l, and_zero_r}
use Rattle.std.proofs.lemmas.Nat.{xor_lt}
use Rattle.std.specs.Int.Count.{ones}
use Rattle.std.proofs.Math.IntN.{pos, +ℤ_idl, neg_ℤ-+ℤ}
use Rattle.std.proofs.Math.ListN.{get_or-eq_default}
use Rattle.area.specs.Area.{at}
use Rattle.code.specs.Code.{IsCodeword, codeword, codeword_test}
use Rattle.code.proofs.Codewords.{codeword_add, test_of_codeword}
use Rattle.code.proofs.Distance.{distance_self}
use Rattle.code.proofs.Inverse.{encoder_codeword}
use Rattle.direction.specs.Direction.{coset_of, highest, insert_zero}
use Rattle.direction.proofs.Insert.{insert_lt}
use Rattle.hadamard.specs.AffineWords.{bit-affine, constant_affine}
use Rattle.hadamard.specs.Correlation.{affine, constant_of, correlation, signed}
use Rattle.hadamard.specs.CorrelationLaws.{correlation-zero, signed_near, swap4}
use Rattle.hadamard.specs.Spread.{affine_apart}
use Rattle.rule.specs.Counts.{most_leaves}
use Rattle.rule.proofs.Order1.{order1_alone, sizes}
use Rattle.rule.specs.Outcomes.{shift}
use Rattle.rule.specs.Reading.{Outcome, abstains, accepted, by_sum, constant, leaves_of, order0, order1}
use Rattle.words.specs.Sum.{sum_below, sum_below_ℤ, total}
use Rattle.words.specs.SumLaws.{bit_tabulate, sum_ext, sum_le, sum_more, sum_plus, sum_prefix, sum_zero, sum_ℤ_ext}
use Rattle.words.specs.TopBit.{ones-zero}
use Rattle.words.specs.Word.{IsWord, add_words, bit, distance}
use Rattle.words.proofs.WordLaws.{word_add, word_bit, word_ext, word_tabulate}
use Rattle.profiles.specs.declared.Profile.{Profile}
use Rattle.profiles.specs.Profiles.{profile_of}
use Rattle.refusals.specs.IsCode.{IsCode}
use Rattle.refusals.proofs.CheckLaws.{code_passes, no_more, passes, rest_passed, then}
use Rattle.refusals.specs.Refusals.{code_checks, first_refusal}
use Rattle.rule.specs.Decoding.{after, answer_of, limit_checks, limited, values}
use Rattle.rule.proofs.DecodingLaws.{limited_within}
use Rattle.rule.proofs.ProfileLaws.{profile_code, profile_most, profile_passes}
use Rattle.confidences.specs.Alike.{RightRoom}
use Rattle.confidences.proofs.AlikeLaws.{profile_limits}
use Rattle.confidences.specs.Answers.{confidence_call, confidence_profile_call, lowest_outside, value_checks}
use Rattle.confidences.proofs.CallLaws.{sized}
use Rattle.confidences.specs.Confidences.{abstained, cut, ended, greatest, joint, leaves_after, lowest_zero, negated, project_values, read, reading, share, signs_of, sums, updated, values_after}
use Rattle.confidences.specs.Counts.{full_leaves, rounds_made}
use Rattle.confidences.proofs.Counts.{most_full, reading_most}
use Rattle.confidences.proofs.Likeness.{at-negated, negated_block, reading_like}
use Rattle.confidences.specs.InRange.{InRange}
use Rattle.confidences.proofs.Range.{range_passes}
use Rattle.confidences.specs.Blocks.{IsBlock, Nonzero, CleanBlock}
use Rattle.confidences.proofs.Rounds.{at_project, bit_signs, block_ext, ended_codeword, reading_one, reading-zero, signs_word, updated-cut, zero_first}
use Rattle.confidences.proofs.Signs.{by_positive, signed_twice}

-- ---- sums of which some are negated

-- what stays, and what is negated
abbrev kept : ℕ → ℕ → ℕ
kept zero s = s
kept (suc t) s = 0

abbrev turned : ℕ → ℕ → ℕ
turned zero s = 0
turned (suc t) s = s

abbrev difference : ℕ → ℕ → ℤ
difference a b = pos a +ℤ neg_ℤ (pos b)

signed_split : (t s : ℕ) → signed t (pos s) ≡ difference (kept t s) (turned t s)
signed_split zero s = ap pos (sym (add-zero s))
signed_split (suc t) s = sym (+ℤ_idl (neg_ℤ (pos s)))

sum_split : (n : ℕ) (t s : ℕ → ℕ) → sum_below_ℤ n (λ p. signed (t p) (pos (s p)))
    ≡ difference (sum_below n (λ p. kept (t p) (s p))) (sum_below n (λ p. turned (t p) (s p)))
unfolding total
sum_split zero t s = refl
sum_split (suc n) t s =
    ap₂ ◌+ℤ◌ (sum_split n t s) (signed_split (t n) (s n))
    ∙ swap4 (pos (sum_below n (λ p. kept (t p) (s p)))) (neg_ℤ (pos (sum_below n (λ p. turned (t p) (s p))))) (pos (kept (t n) (s n))) (neg_ℤ (pos (turned (t n) (s n))))
    ∙ ap (λ (z : ℤ). pos (sum_below n (λ p. kept (t p) (s p)) + kept (t n) (s n)) +ℤ z)
    (sym (neg_ℤ-+ℤ (pos (sum_below n (λ p. turned (t p) (s p)))) (pos (turned (t n) (s n)))))

-- both kinds: less than the sum
difference_size : (a b : ℕ) → 0 < a → 0 < b → nat_abs (difference a b) < a + b
difference_size a zero ha hb = absurd (omega arith)
difference_size a (suc b) ha hb = go (ltb a (suc b)) refl
  where
    go : (x : Bool) → ltb a (suc b) ≡ x → nat_abs (cond x (negsuc (suc b - suc a)) (pos (a - suc b))) < a + suc b
    go true e = omega (arith, ltb-true a (suc b) e)
    go false e = omega arith

sum_kept : (n : ℕ) (t s : ℕ → ℕ) → sum_below n (λ p. kept (t p) (s p)) + sum_below n (λ p. turned (t p) (s p)) ≡ sum_below n s
sum_kept n t s = sym (sum_plus n (λ p. kept (t p) (s p)) (λ p. turned (t p) (s p))) ∙ sum_ext n _ s (λ p l. both (t p) (s p))
  where
    both : (i j : ℕ) → kept i j + turned i j ≡ j
    both zero j = add-zero j
    both (suc i) j = omega arith

-- a term is no more than the sum
sum_term : (n : ℕ) (f : ℕ → ℕ) (i : ℕ) → i < n → f i ≤ sum_below n f
sum_term n f i l = omega (arith, sum_more i f, sum_prefix n (i + 1) f (omega arith))

-- ---- positive values

pub record Positive (m : ℕ) (x : List ℤ) : Type 0 where
  pub each : (p : ℕ) → p < 2 ^ m → at x p ≡ pos (nat_abs (at x p))
  pub some : (p : ℕ) → p < 2 ^ m → 0 < nat_abs (at x p)

-- the word of zeros, a codeword of every order
zeros_word : (m : ℕ) → IsWord m (constant m 0)
zeros_word m = word_tabulate m (λ p. 0) (λ p l. omega arith)

zeros_bit : (m q : ℕ) → bit (constant m 0) q ≡ 0
zeros_bit m q = elim (dec_lt q (2 ^ m)) [
  | yes l ↦ bit_tabulate (2 ^ m) (λ p. 0) q l
  | no k ↦ get_or-eq_default (constant m 0) 0 {n = q} (omega (arith, (zeros_word m).size))
]

zeros_codeword : (m r : ℕ) → IsCodeword m r (constant m 0)
zeros_codeword m r =
    let c : List ℕ = codeword m r [] in
    let hc = encoder_codeword m r [] in
    subst (IsCodeword m r)
    (word_ext (word_add hc.word hc.word) (zeros_word m) (λ p l. word_bit hc.word hc.word p ∙ omega (arith, zeros_bit m p)))
    (codeword_add m r c c hc hc)

sum_pos : (n : ℕ) (s : ℕ → ℕ) → sum_below_ℤ n (λ p. pos (s p)) ≡ pos (sum_below n s)
unfolding total
sum_pos zero s = refl
sum_pos (suc n) s = ap (λ (z : ℤ). z +ℤ pos (s n)) (sum_pos n s)

-- ---- orders 0 and 1

module _ (m : ℕ) (x : List ℤ) (h : Positive m x) where
  abbrev size : ℕ → ℕ
  size p = nat_abs (at x p)

  sum_positive : sum_below_ℤ (2 ^ m) (at x) ≡ pos (sum_below (2 ^ m) size)
  sum_positive = sum_ℤ_ext (2 ^ m) (at x) (λ p. pos (size p)) h.each ∙ sum_pos (2 ^ m) size

  total_positive : 0 < sum_below (2 ^ m) size
  total_positive = omega (arith, sum_term (2 ^ m) size 0 (pow_pos m), h.some 0 (pow_pos m))

  zero_positive : order0 m (at x) ≡ accepted (constant m 0) 0 0
  unfolding order0
  zero_positive = ap (by_sum m) sum_positive ∙ by_positive m _ total_positive

  -- the correlation of a mask that is not 0 is smaller: some value is negated, and that of place 0 is not
  module _ (u : ℕ) (lu : u < 2 ^ m) (ne : u ≢ 0) where
    abbrev parity : ℕ → ℕ
    parity p = ones (bit_and u p) % 2

    split : correlation m (at x) u ≡ difference (sum_below (2 ^ m) (λ p. kept (parity p) (size p))) (sum_below (2 ^ m) (λ p. turned (parity p) (size p)))
    unfolding correlation
    split = sum_ℤ_ext (2 ^ m) _ (λ p. signed (parity p) (pos (size p))) (λ p l. ap (signed (parity p)) (h.each p l)) ∙ sum_split (2 ^ m) parity size

    some_kept : 0 < sum_below (2 ^ m) (λ p. kept (parity p) (size p))
    some_kept =
        let even : parity 0 ≡ 0 = ap (λ (k : ℕ). k % 2) (ap ones (and_zero_r u) ∙ ones-zero) in
        omega (
          arith,
          sum_term (2 ^ m) (λ p. kept (parity p) (size p)) 0 (pow_pos m),
          ap (λ (k : ℕ). kept k (size 0)) even,
          h.some 0 (pow_pos m),
        )

    -- half of the parities are odd
    odd : 2 ^ m ≤ 2 * sum_below (2 ^ m) parity
    unfolding distance
    odd =
        omega (
          arith,
          affine_apart m u 0 0 0 lu (pow_pos m) ne,
          sum_ext (2 ^ m) _ parity
              (λ p l.
              ap₂ (λ (a b : ℕ). (a + b) % 2) (bit-affine m u 0 p l) (bit-affine m 0 0 p l)
              ∙ ap (λ (b : ℕ). ((0 + ones (bit_and u p)) % 2 + (0 + b) % 2) % 2) (ap ones (and_zero_l p) ∙ ones-zero) ∙ omega arith),
        )

    one_turned : (t s : ℕ) → t < 2 → 0 < s → t ≤ turned t s
    one_turned zero s ht hs = omega arith
    one_turned (suc t) s ht hs = omega arith

    some_turned : 0 < sum_below (2 ^ m) (λ p. turned (parity p) (size p))
    some_turned =
        omega (arith, odd, pow_pos m, sum_le (2 ^ m) parity (λ p. turned (parity p) (size p)) (λ p l. one_turned (parity p) (size p) (omega arith) (h.some p l)))

    smaller : sizes m (at x) u < sizes m (at x) 0
    smaller =
        omega (
          arith,
          ap nat_abs split,
          difference_size _ _ some_kept some_turned,
          sum_kept (2 ^ m) parity size,
          ap nat_abs (correlation-zero m (at x) ∙ sum_positive),
        )

  one_positive : order1 m (at x) ≡ accepted (constant m 0) 0 1
  one_positive =
      order1_alone m (at x) {u = 0} (record { below = pow_pos m; others = smaller })
      ∙ ap (λ (z : ℤ). accepted (affine m 0 (constant_of z)) 0 1) (correlation-zero m (at x) ∙ sum_positive)
      ∙ ap (λ (d : List ℕ). accepted d 0 1) (sym (constant_affine m 0 (omega arith)))

-- ---- a round

module _ (m : ℕ) (x : List ℤ) (h : Positive (suc m) x) where
  project_positive : (b : ℕ) → b < 2 ^ suc m → Positive m (project_values m b x)
  project_positive b lb = record {
    each = λ q l. value q l ∙ ap pos (sym (ap nat_abs (value q l)));
    some = λ q l. omega (arith, ap nat_abs (value q l), h.some (first q) (first_lt q l), h.some (bit_xor (first q) b) (second_lt q l));
  }
    where
      first : ℕ → ℕ
      first q = insert_zero (highest b) q

      first_lt : (q : ℕ) → q < 2 ^ m → insert_zero (highest b) q < 2 ^ suc m
      first_lt q l = insert_lt m (highest b) q l

      second_lt : (q : ℕ) → q < 2 ^ m → bit_xor (insert_zero (highest b) q) b < 2 ^ suc m
      second_lt q l = xor_lt (suc m) (insert_zero (highest b) q) b (first_lt q l) lb

      value : (q : ℕ) → q < 2 ^ m
          → at (project_values m b x) q ≡ pos (min (nat_abs (at x (insert_zero (highest b) q))) (nat_abs (at x (bit_xor (insert_zero (highest b) q) b))))
      value q l = at_project m b x q l ∙ ap₂ joint (h.each (insert_zero (highest b) q) (first_lt q l)) (h.each (bit_xor (insert_zero (highest b) q) b) (second_lt q l))

  -- where every positive block is read as zeros
  module _ (lower : List ℤ → Outcome) (k l : ℕ) (same : (v : List ℤ) → Positive m v → lower v ≡ accepted (constant m 0) k l) where
    direction : (i : ℕ) → i < 2 ^ suc m - 1 → read m lower x i ≡ accepted (constant m 0) k l
    direction i li = same (project_values m (suc i) x) (project_positive (suc i) (omega arith))

    none_abstains : abstained m lower x ≡ 0
    unfolding abstained
    none_abstains = sum_zero (2 ^ suc m - 1) _ (λ i li. ap abstains (direction i li))

    module _ (p : ℕ) (lp : p < 2 ^ suc m) where
      abbrev heard : ℕ
      heard = sum_below (2 ^ suc m - 1) (λ i. nat_abs (at x (bit_xor p (suc i))))

      share_positive : (i : ℕ) → i < 2 ^ suc m - 1 → share (suc i) x (read m lower x i) p ≡ pos (nat_abs (at x (bit_xor p (suc i))))
      share_positive i li =
          ap (λ (o : Outcome). share (suc i) x o p) (direction i li)
          ∙ ap (λ (t : ℕ). signed t (at x (bit_xor p (suc i)))) (zeros_bit m (coset_of (suc i) p))
          ∙ h.each (bit_xor p (suc i)) (xor_lt (suc m) p (suc i) lp (omega arith))

      sums_positive : sums m lower x p ≡ pos heard
      unfolding sums
      sums_positive = sum_ℤ_ext (2 ^ suc m - 1) _ (λ i. pos (nat_abs (at x (bit_xor p (suc i))))) share_positive ∙ sum_pos (2 ^ suc m - 1) _

      heard_some : 0 < heard
      heard_some =
          omega (
            arith,
            pow_pos m,
            sum_term (2 ^ suc m - 1) (λ i. nat_abs (at x (bit_xor p (suc i)))) 0 (omega (arith, pow_pos m)),
            h.some (bit_xor p 1) (xor_lt (suc m) p 1 lp (omega (arith, pow_pos m))),
          )

      updated_value : at (updated m lower x) p ≡ pos (min heard greatest)
      updated_value = updated-cut m lower x p lp (λ e. omega (arith, none_abstains, pow_pos m)) ∙ ap cut sums_positive

    updated_positive : Positive (suc m) (updated m lower x)
    updated_positive = record {
      each = λ p lp. updated_value p lp ∙ ap pos (sym (ap nat_abs (updated_value p lp)));
      some = λ p lp. omega (arith, ap nat_abs (updated_value p lp), heard_some p lp);
    }

after_positive : (m : ℕ) (lower : List ℤ → Outcome) (k l : ℕ) → ((v : List ℤ) → Positive m v → lower v ≡ accepted (constant m 0) k l)
    → (rounds : ℕ) (x : List ℤ) → Positive (suc m) x → Positive (suc m) (values_after m lower rounds x)
unfolding values_after
after_positive m lower k l same zero x h = h
after_positive m lower k l same (suc rounds) x h = updated_positive m (values_after m lower rounds x) (after_positive m lower k l same rounds x h) lower k l same

-- ---- the end

signs_positive : (m : ℕ) (x : List ℤ) → Positive m x → signs_of m x ≡ constant m 0
signs_positive m x h = word_ext (signs_word m x) (zeros_word m) (λ p l. bit_signs m x p l ∙ ap constant_of (h.each p l) ∙ sym (zeros_bit m p))

ended_positive : (m r : ℕ) (x : List ℤ) (k l : ℕ) → Positive m x → ended m r x k l ≡ accepted (constant m 0) k l
ended_positive m r x k l h =
    ended_codeword m r x k l none (ap (codeword_test m r) (signs_positive m x h) ∙ test_of_codeword m r (constant m 0) (zeros_codeword m r))
    ∙ ap (λ (d : List ℕ). accepted d k l) (signs_positive m x h)
  where
    none : 2 ^ m ≤ lowest_zero m x
    none = elim (dec_lt (lowest_zero m x) (2 ^ m)) [
      | yes a ↦ absurd (omega (arith, h.some (lowest_zero m x) a, eqb-true (nat_abs (at x (lowest_zero m x))) 0 ((zero_first m x).found a)))
      | no b ↦ omega arith
    ]

counted : (r m limit : ℕ) (x : List ℤ) (d : List ℕ) (k l : ℕ) → reading r m limit x ≡ accepted d k l → reading r m limit x ≡ accepted d k (most_leaves r m limit)
counted r m limit x d k l e = e ∙ ap (accepted d k) (ap leaves_of (sym e) ∙ reading_most r m limit x)

above_positive : (r m limit : ℕ) (x : List ℤ) → Positive (suc m) (values_after m (reading (suc r) m limit) limit x)
    → reading (suc (suc r)) (suc m) limit x ≡ accepted (constant (suc m) 0) limit (leaves_after m (reading (suc r) m limit) limit x)
unfolding reading
above_positive r m limit x h = ended_positive (suc m) (suc (suc r)) (values_after m (reading (suc r) m limit) limit x) limit _ h

reading_positive : (r m limit : ℕ) → r ≤ m → (x : List ℤ) → Positive m x → reading r m limit x ≡ accepted (constant m 0) (rounds_made r limit) (most_leaves r m limit)
reading_positive zero m limit h x hx = counted 0 m limit x (constant m 0) 0 0 (reading-zero m limit x ∙ zero_positive m x hx)
reading_positive (suc zero) m limit h x hx = counted 1 m limit x (constant m 0) 0 1 (reading_one m limit x ∙ one_positive m x hx)
reading_positive (suc (suc r)) zero limit h x hx = absurd (omega arith)
reading_positive (suc (suc r)) (suc m) limit h x hx =
    counted (suc (suc r)) (suc m) limit x (constant (suc m) 0) limit _
    (above_positive r m limit x (after_positive m (reading (suc r) m limit) (rounds_made (suc r) limit) (most_leaves (suc r) m limit)
    (reading_positive (suc r) m limit (omega arith)) limit x hx))

-- ---- any codeword

zeros_add : (m : ℕ) (c : List ℕ) → IsWord m c → add_words (constant m 0) c ≡ c
zeros_add m c hc = word_ext (word_add (zeros_word m) hc) hc (λ p l. omega (arith, word_bit (zeros_word m) hc p, zeros_bit m p, hc.bits p))

pub clean_values : (r m limit : ℕ) → r ≤ m → m ≤ 10 → (x : List ℤ) → IsBlock m x → Nonzero m x → IsCodeword m r (signs_of m x)
    → reading r m limit x ≡ accepted (signs_of m x) (rounds_made r limit) (full_leaves r m limit)
clean_values r m limit h hm x hx some hc =
    let c : List ℕ = signs_of m x in
    let y : List ℤ = negated x c in
    let hy : IsBlock m y = negated_block hx c in
    let back : x ≡ negated y c =
    block_ext hx (negated_block hy c)
    (λ p l. sym (at-negated hy c p ∙ ap (signed (bit c p)) (at-negated hx c p) ∙ signed_twice (bit c p) (at x p))) in
    let positive : (p : ℕ) → p < 2 ^ m → at y p ≡ pos (nat_abs (at x p)) =
    λ p l. at-negated hx c p ∙ ap (λ (t : ℕ). signed t (at x p)) (bit_signs m x p l) ∙ signed_near (at x p) in
    let zeros : reading r m limit y ≡ accepted (constant m 0) (rounds_made r limit) (most_leaves r m limit) =
    reading_positive r m limit h y
    (record { each = λ p l. positive p l ∙ ap pos (sym (ap nat_abs (positive p l))); some = λ p l. omega (arith, ap nat_abs (positive p l), some p l) }) in
    ap (reading r m limit) back ∙ reading_like r m limit h hm y c hy hc ∙ ap (shift c) zeros
    ∙ ap₂ (λ (d : List ℕ) (l : ℕ). accepted d (rounds_made r limit) l) (zeros_add m c hc.word) (most_full r m limit h)

-- ---- calls

values_pass : {m : ℕ} {x : List ℤ} → IsBlock m x → InRange x → {room area : ℕ} → RightRoom m room area → 0 ≡ first_refusal (value_checks m x room area)
values_pass {m} {x} hx range fits = passes 18 _ _ (le-leb (length x) (lowest_outside x) (range_passes x range)) no_more ∙ sized hx fits

-- in buffers of the right sizes, under limits that their code allows, the codeword is accepted
pub clean_call : (rounds leaves : ℕ) {m r room area : ℕ} {x : List ℤ} → CleanBlock m r x → RightRoom m room area → IsCode m r
    → 0 ≡ first_refusal (limit_checks rounds leaves) → full_leaves r m rounds ≤ leaves
    → confidence_call m r rounds leaves x room area ≡ accepted (signs_of m x) (rounds_made r rounds) (full_leaves r m rounds)
unfolding confidence_call after
clean_call rounds leaves {m} {r} {room} {area} {x} h fits code limits few =
    let read : reading r m rounds x ≡ accepted (signs_of m x) (rounds_made r rounds) (full_leaves r m rounds) =
    clean_values r m rounds code.order code.most x h.block h.some h.codeword in
    let pass : first_refusal (code_checks m r ++ limit_checks rounds leaves ++ value_checks m x room area) ≡ 0 =
    sym (code_passes (limit_checks rounds leaves ++ value_checks m x room area) code
    (then (limit_checks rounds leaves) (value_checks m x room area) tt limits (values_pass h.block h.range fits))) in
    rw pass (ap (limited leaves) read ∙ limited_within leaves (accepted (signs_of m x) (rounds_made r rounds) (full_leaves r m rounds)) few)

-- under every profile, with no place mended
pub clean_profile : (number : ℕ) → number ≤ 4 → {room area : ℕ} {x : List ℤ} → CleanBlock (profile_of number).m (profile_of number).r x → RightRoom (profile_of number).m room area
    → answer_of (profile_of number).m (signs_of (profile_of number).m x) (confidence_profile_call number x room area)
    ≡ values 0 (rounds_made (profile_of number).r (profile_of number).rounds) (profile_of number).leaves 0
clean_profile number le {room} {area} {x} h fits =
    let f : Profile = profile_of number in
    let full : full_leaves f.r f.m f.rounds ≡ f.leaves = sym (most_full f.r f.m f.rounds (profile_code number le).order) ∙ profile_most number le in
    ap (answer_of f.m (signs_of f.m x))
    (profile_limits number x room area le
    ∙ clean_call f.rounds f.leaves h fits (profile_code number le) (sym (rest_passed (code_checks f.m f.r) (limit_checks f.rounds f.leaves) tt (profile_passes number le))) (omega (arith, full)))
    ∙ ap₂ (values 0 (rounds_made f.r f.rounds)) full (distance_self f.m (signs_of f.m x))

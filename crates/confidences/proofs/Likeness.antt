-- A reading of values negated where a codeword is 1 is the reading of the values, plus the codeword. Assumes nothing.
use Prim.Native.Nat.{ℕ, zero, suc, ◌+◌, ◌-◌, ◌%◌, ◌^◌, ◌≤◌, ◌<◌}
use Rattle.std.specs.Prelude.{◌≡◌, Bool, true, false, cond, List, ℤ, pos, nat_abs, length}
use Rattle.std.proofs.Math.Path.{refl, sym, ap}
use Rattle.std.proofs.Common.{ap₂, ◌∙◌, arith, pow_mono, ltb-false}
use Rattle.std.proofs.Math.Decide.{dec_lt}
use Rattle.std.specs.Int.Bits.{bit_xor}
use Rattle.std.proofs.Math.Dec.{eqb, ltb}
use Rattle.std.proofs.Math.ListN.{get_or-eq_default}
use Rattle.area.specs.Area.{at}
use Rattle.code.specs.Code.{IsCodeword, codeword_test}
use Rattle.code.proofs.Codewords.{codeword_of_test, test_add}
use Rattle.direction.proofs.Cosets.{project_coset}
use Rattle.direction.specs.Direction.{coset_of, highest, insert_zero, project}
use Rattle.direction.proofs.Insert.{highest_top}
use Rattle.direction.proofs.Projected.{bit-project, project_codeword, word_project}
use Rattle.hadamard.specs.Correlation.{constant_of, signed}
use Rattle.hadamard.specs.CorrelationLaws.{nat_abs-signed, sum_signed}
use Rattle.rule.proofs.Order0.{order0_in, order0-signed}
use Rattle.rule.proofs.Order1.{order1_in, order1-signed}
use Rattle.rule.specs.Outcomes.{shift, CodewordIn, leaves_shift}
use Rattle.rule.specs.Reading.{Outcome, abstains, accepted, leaves_of, refused}
use Rattle.rule.proofs.Rounds.{settled}
use Rattle.words.specs.Search.{where_ext}
use Rattle.words.specs.Sum.{first_where}
use Rattle.words.specs.SumLaws.{get_or-tabulate, length-tabulate, sum_ext, sum_ℤ_ext}
use Rattle.words.specs.Word.{IsWord, add_words, bit}
use Rattle.words.proofs.WordLaws.{word_add, word_bit, word_ext}
use Rattle.confidences.specs.Answers.{lowest_outside}
use Rattle.confidences.specs.Confidences.{abstained, cut, ended, greatest, joint, leaves_after, lowest_zero, negated, project_values, read, reading, round_leaves, share, signs_of, sums, updated, values_after, zero_place}
use Rattle.confidences.specs.Blocks.{IsBlock, Nonzero}
use Rattle.confidences.proofs.Rounds.{after_block, at_project, at-updated, bit_signs, block_ext, ended_cases, none_zero, project_block, signs_word, updated_block}
use Rattle.confidences.proofs.Signs.{bit_signed, cut-signed, joint-signed, signed_across, signed-zero}

-- ---- negated values

module _ {m : ℕ} {x : List ℤ} (hx : IsBlock m x) (c : List ℕ) where
  pub negated_block : IsBlock m (negated x c)
  unfolding negated
  negated_block = record { size = length-tabulate (length x) _ ∙ hx.size }

  -- past the end both read 0
  pub at-negated : (p : ℕ) → at (negated x c) p ≡ signed (bit c p) (at x p)
  unfolding negated
  at-negated p = elim (dec_lt p (length x)) [
    | yes l ↦ get_or-tabulate (length x) _ (pos 0) p l
    | no k ↦
        get_or-eq_default (negated x c) (pos 0) {n = p} (omega (arith, length-tabulate (length x) (λ q. signed (bit c q) (at x q))))
        ∙ sym (signed-zero (bit c p))
        ∙ ap (signed (bit c p)) (sym (get_or-eq_default x (pos 0) {n = p} (omega arith)))
  ]

  size_negated : (p : ℕ) → nat_abs (at (negated x c) p) ≡ nat_abs (at x p)
  size_negated p = ap nat_abs (at-negated p) ∙ nat_abs-signed (bit c p) (at x p)

  -- "18, a confidence outside the range, lowest place named": the same place
  pub outside_like : lowest_outside (negated x c) ≡ lowest_outside x
  unfolding lowest_outside
  outside_like =
      ap (λ (n : ℕ). first_where n (λ p. ltb greatest (nat_abs (at (negated x c) p)))) (negated_block.size ∙ sym hx.size)
      ∙ where_ext (length x) _ _ (λ p l. ap (ltb greatest) (size_negated p))

-- ---- projection

project-negated : (m b : ℕ) (x : List ℤ) (c : List ℕ) → IsBlock (suc m) x → IsWord (suc m) c
    → project_values m b (negated x c) ≡ negated (project_values m b x) (project m b c)
project-negated m b x c hx hc =
    block_ext (project_block m b _) (negated_block (project_block m b x) (project m b c))
    (λ q l.
    let i : ℕ = insert_zero (highest b) q in
    let j : ℕ = bit_xor i b in
    at_project m b (negated x c) q l ∙ ap₂ joint (at-negated hx c i) (at-negated hx c j)
    ∙ joint-signed (bit c i) (bit c j) (at x i) (at x j) (hc.bits i) (hc.bits j)
    ∙ sym (at-negated (project_block m b x) (project m b c) q ∙ ap₂ signed (bit-project m b c q l) (at_project m b x q l)))

-- ---- a round

abstains-shift : (c : List ℕ) (o : Outcome) → abstains (shift c o) ≡ abstains o
abstains-shift c (accepted d k l) = refl
abstains-shift c (refused e k l) = refl

module _ (m r : ℕ) (hm : m < 32) {x : List ℤ} {c : List ℕ} (hx : IsBlock (suc m) x) (hc : IsWord (suc m) c) where
  -- a direction adds the same, but for the sign at p
  share-shift : (i : ℕ) → i < 2 ^ suc m - 1 → (o : Outcome) → CodewordIn m r o → (p : ℕ) → p < 2 ^ suc m
      → share (suc i) (negated x c) (shift (project m (suc i) c) o) p ≡ signed (bit c p) (share (suc i) x o p)
  share-shift i l (accepted d k j) hd p lp =
      let b : ℕ = suc i in
      let q : ℕ = coset_of b p in
      let top = highest_top b (omega arith) (omega (arith, pow_mono hm)) in
      ap₂ signed
      (word_bit hd.word (word_project m b c) q ∙ ap (λ (y : ℕ). (bit d q + y) % 2) (project_coset b top p m c (omega arith) lp))
      (at-negated hx c (bit_xor p b))
      ∙ signed_across (bit d q) (bit c p) (bit c (bit_xor p b)) (at x (bit_xor p b)) (hd.word.bits q) (hc.bits p) (hc.bits (bit_xor p b))
  share-shift i l (refused e k j) hd p lp = sym (signed-zero (bit c p))

cond-signed : (t : ℕ) (s : Bool) (y z : ℤ) → cond s (signed t y) (signed t z) ≡ signed t (cond s y z)
cond-signed t true y z = refl
cond-signed t false y z = refl

module _ (m : ℕ) (lower : List ℤ → Outcome) (r : ℕ) (hm : m < 32)
    (lower_in : (v : List ℤ) → CodewordIn m r (lower v))
    (lower_like : (v : List ℤ) (e : List ℕ) → IsBlock m v → IsCodeword m r e → lower (negated v e) ≡ shift e (lower v))
    (c : List ℕ) (hc : IsCodeword (suc m) (suc r) c) where
  module _ (x : List ℤ) (hx : IsBlock (suc m) x) where
    -- a direction's reading of both
    read_like : (i : ℕ) → i < 2 ^ suc m - 1 → read m lower (negated x c) i ≡ shift (project m (suc i) c) (read m lower x i)
    read_like i l =
        ap lower (project-negated m (suc i) x c hx hc.word)
        ∙ lower_like _ _ (project_block m (suc i) x) (project_codeword m r (suc i) c hm (omega arith) (omega arith) hc)

    sums_like : (p : ℕ) → p < 2 ^ suc m → sums m lower (negated x c) p ≡ signed (bit c p) (sums m lower x p)
    unfolding sums
    sums_like p lp =
        sum_ℤ_ext (2 ^ suc m - 1) _ (λ i. signed (bit c p) (share (suc i) x (read m lower x i) p))
        (λ i l.
        ap (λ (o : Outcome). share (suc i) (negated x c) o p) (read_like i l)
        ∙ share-shift m r hm hx hc.word i l (read m lower x i) (lower_in (project_values m (suc i) x)) p lp)
        ∙ sum_signed (2 ^ suc m - 1) (bit c p) _

    abstained_like : abstained m lower (negated x c) ≡ abstained m lower x
    unfolding abstained
    abstained_like = sum_ext (2 ^ suc m - 1) _ _ (λ i l. ap abstains (read_like i l) ∙ abstains-shift (project m (suc i) c) (read m lower x i))

    leaves_like : round_leaves m lower (negated x c) ≡ round_leaves m lower x
    unfolding round_leaves
    leaves_like = sum_ext (2 ^ suc m - 1) _ _ (λ i l. ap leaves_of (read_like i l) ∙ leaves_shift (project m (suc i) c) (read m lower x i))

    updated_like : updated m lower (negated x c) ≡ negated (updated m lower x) c
    updated_like =
        let kept : Bool = eqb (abstained m lower x) (2 ^ suc m - 1) in
        block_ext (updated_block m lower _) (negated_block (updated_block m lower x) c)
        (λ p l.
        at-updated m lower (negated x c) p l
        ∙ ap₂ (λ (a : ℕ) (z : ℤ). cond (eqb a (2 ^ suc m - 1)) (at (negated x c) p) (cut z)) abstained_like (sums_like p l)
        ∙ ap₂ (λ (y z : ℤ). cond kept y z) (at-negated hx c p) (cut-signed (bit c p) (sums m lower x p))
        ∙ cond-signed (bit c p) kept _ _
        ∙ sym (at-negated (updated_block m lower x) c p ∙ ap (signed (bit c p)) (at-updated m lower x p l)))

  after_like : (k : ℕ) (x : List ℤ) → IsBlock (suc m) x → values_after m lower k (negated x c) ≡ negated (values_after m lower k x) c
  unfolding values_after
  after_like zero x hx = refl
  after_like (suc k) x hx =
      ap (updated m lower) (after_like k x hx) ∙ updated_like (values_after m lower k x) (after_block m lower k x hx)

  leaves_after_like : (k : ℕ) (x : List ℤ) → IsBlock (suc m) x → leaves_after m lower k (negated x c) ≡ leaves_after m lower k x
  unfolding leaves_after
  leaves_after_like k x hx =
      sum_ext k _ _ (λ i l. ap (round_leaves m lower) (after_like i x hx) ∙ leaves_like (values_after m lower i x) (after_block m lower i x hx))

-- ---- the end

module _ (m : ℕ) (x : List ℤ) (c : List ℕ) (hx : IsBlock m x) (hc : IsWord m c) where
  pub signs_like : Nonzero m x → signs_of m (negated x c) ≡ add_words (signs_of m x) c
  signs_like n =
      word_ext (signs_word m _) (word_add (signs_word m x) hc)
      (λ p l.
      bit_signs m (negated x c) p l ∙ ap constant_of (at-negated hx c p) ∙ bit_signed (bit c p) (at x p) (hc.bits p) (n p l)
      ∙ sym (word_bit (signs_word m x) hc p ∙ ap (λ (y : ℕ). (y + bit c p) % 2) (bit_signs m x p l)))

  zero_like : lowest_zero m (negated x c) ≡ lowest_zero m x
  unfolding lowest_zero
  zero_like = where_ext (2 ^ m) _ _ (λ p l. ap (λ (y : ℕ). eqb y 0) (size_negated hx c p))

ended_in : (m r : ℕ) (x : List ℤ) (k l : ℕ) → CodewordIn m r (ended m r x k l)
ended_in m r x k l = ended_cases m r x k l (CodewordIn m r) (λ z. tt) (λ z e. codeword_of_test m r (signs_of m x) (signs_word m x) e) (λ z. tt)

ended_like : (m r : ℕ) (x : List ℤ) (c : List ℕ) (k l : ℕ) → IsBlock m x → IsCodeword m r c → ended m r (negated x c) k l ≡ shift c (ended m r x k l)
unfolding ended
ended_like m r x c k l hx hc =
    ap (λ (p : ℕ). cond (ltb p (2 ^ m)) (refused 17 k l) (tested (signs_of m (negated x c)))) (zero_like m x c hx hc.word)
    ∙ go (ltb (lowest_zero m x) (2 ^ m)) refl
  where
    tested : List ℕ → Outcome
    tested w = settled w k l (codeword_test m r w)

    pushed : (w : List ℕ) (t : Bool) → settled (add_words w c) k l t ≡ shift c (settled w k l t)
    pushed w true = refl
    pushed w false = refl

    go : (s : Bool) → ltb (lowest_zero m x) (2 ^ m) ≡ s
        → cond s (refused 17 k l) (tested (signs_of m (negated x c))) ≡ shift c (cond s (refused 17 k l) (tested (signs_of m x)))
    go true e = refl
    go false e =
        ap tested (signs_like m x c hx hc.word (none_zero m x (ltb-false (lowest_zero m x) (2 ^ m) e)))
        ∙ ap (settled (add_words (signs_of m x) c) k l) (test_add m r (signs_of m x) c (signs_word m x) hc)
        ∙ pushed (signs_of m x) (codeword_test m r (signs_of m x))

-- ---- readings

-- what a reading decodes is a codeword
pub reading_in : (r m limit : ℕ) (x : List ℤ) → CodewordIn m r (reading r m limit x)
unfolding reading
reading_in zero m limit x = order0_in m (at x)
reading_in (suc zero) m limit x = order1_in m (at x)
reading_in (suc (suc r)) m limit x = ended_in m (suc (suc r)) _ _ _

pub reading_like : (r m limit : ℕ) → r ≤ m → m ≤ 10 → (x : List ℤ) (c : List ℕ) → IsBlock m x → IsCodeword m r c
    → reading r m limit (negated x c) ≡ shift c (reading r m limit x)
unfolding reading
reading_like zero m limit h hm x c hx hc = order0-signed m (at x) (at (negated x c)) c hc (λ p l. at-negated hx c p)
reading_like (suc zero) m limit h hm x c hx hc = order1-signed m (at x) (at (negated x c)) c h hc (λ p l. at-negated hx c p)
reading_like (suc (suc r)) zero limit h hm x c hx hc = absurd (omega arith)
reading_like (suc (suc r)) (suc m) limit h hm x c hx hc =
    let lower : List ℤ → Outcome = reading (suc r) m limit in
    let like : (v : List ℤ) (e : List ℕ) → IsBlock m v → IsCodeword m (suc r) e → lower (negated v e) ≡ shift e (lower v)
    = reading_like (suc r) m limit (omega arith) (omega arith) in
    ap₂ (λ (y : List ℤ) (l : ℕ). ended (suc m) (suc (suc r)) y limit l)
    (after_like m lower (suc r) (omega arith) (reading_in (suc r) m limit) like c hc limit x hx)
    (leaves_after_like m lower (suc r) (omega arith) (reading_in (suc r) m limit) like c hc limit x hx)
    ∙ ended_like (suc m) (suc (suc r)) (values_after m lower limit x) c limit _ (after_block m lower limit x hx) hc

-- "17, .. lowest place named": the same place
pub zero_place_like : (r m limit : ℕ) → r ≤ m → m ≤ 10 → 2 ≤ r → (x : List ℤ) (c : List ℕ) → IsBlock m x → IsCodeword m r c
    → zero_place r m limit (negated x c) ≡ zero_place r m limit x
unfolding zero_place
zero_place_like zero m limit h hm two x c hx hc = absurd (omega arith)
zero_place_like (suc r) zero limit h hm two x c hx hc = absurd (omega arith)
zero_place_like (suc r) (suc m) limit h hm two x c hx hc =
    let lower : List ℤ → Outcome = reading r m limit in
    ap (lowest_zero (suc m))
    (after_like m lower r (omega arith) (reading_in r m limit)
    (reading_like r m limit (omega arith) (omega arith)) c hc limit x hx)
    ∙ zero_like (suc m) (values_after m lower limit x) c (after_block m lower limit x hx) hc.word

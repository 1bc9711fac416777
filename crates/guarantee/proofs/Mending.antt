-- A reading mends what differs from a codeword in fewer than half the distance of places: by the directions' votes exactly the wrong places
-- flip in the first round, and the second settles. Assumes nothing.
use Prim.Native.Nat.{ℕ, zero, suc, ◌+◌, ◌-◌, ◌*◌, ◌%◌, ◌^◌, ◌≤◌, ◌<◌}
use Rattle.std.specs.Prelude.{◌≡◌, refl, Bool, true, false, List, ltb}
use Rattle.std.proofs.Math.Path.{sym, ap, ap₂}
use Rattle.std.proofs.Common.{◌∙◌, subst, mul_assoc, mul-one, one-mul, arith, pow_mono, eq-eqb, eqb-true, le-ltb, lt-ltb}
use Rattle.std.proofs.Math.Nat.{sub-zero}
use Rattle.std.specs.Int.Bits.{bit_xor, xor_zero_r}
use Rattle.std.proofs.Math.Pow.{suc_ones}
use Rattle.code.specs.Code.{IsCodeword}
use Rattle.code.proofs.Codewords.{test_of_codeword}
use Rattle.code.proofs.Distance.{code_distance, distance_self, triangle}
use Rattle.direction.proofs.Cosets.{project_coset}
use Rattle.direction.specs.Direction.{highest, project}
use Rattle.direction.proofs.Insert.{Top, highest_top}
use Rattle.direction.proofs.Projected.{project_codeword, word_project}
use Rattle.guarantee.specs.Guarantee.{Mends, enough}
use Rattle.guarantee.specs.PlaceSums.{distance-project, sum_first, sum_from, sum_turned}
use Rattle.rule.specs.Nearest.{Nearest}
use Rattle.rule.proofs.Nearest.{nearest_accepted, order0_judged, order1_judged}
use Rattle.rule.specs.Reading.{Outcome, abstained, abstains, accepted, flipped, flips, leaves_of, reading, round_leaves, rounds, vote, votes}
use Rattle.rule.proofs.Rounds.{flips_word, rounds_step, still}
use Rattle.words.specs.Sum.{sum_below, total}
use Rattle.words.specs.SumLaws.{all_true, bit_tabulate, sum_ext, sum_most, sum_zero, total_append, total_ext, true_all}
use Rattle.words.specs.Word.{IsWord, add_words, bit, distance, indicator}
use Rattle.words.proofs.WordLaws.{add_cancel, sorted, unmod, word_add, word_bit, word_ext}

-- where none abstains, a place flips by more than half of the directions
flipped_all : (v n : ℕ) → flipped v n 0 ≡ ltb n (2 * v)
unfolding flipped
flipped_all v n = ap (λ (x : ℕ). ltb x (2 * v)) (sub-zero n)

-- ---- the leaves that are enough

enough_step : (m r : ℕ) → enough (suc m) (suc (suc r)) ≡ 2 * ((2 ^ suc m - 1) * enough m (suc r))
unfolding enough total
enough_step m r =
    let f : ℕ → ℕ = λ i. 2 * (2 ^ (suc m - i) - 1) in
    let g : ℕ → ℕ = λ i. 2 * (2 ^ (m - i) - 1) in
    let turned : 1 + r ≡ suc r = omega arith in
    ap (λ (x : ℕ). total ◌*◌ 1 x f) (sym turned)
    ∙ total_append ◌*◌ 1 mul-one mul_assoc 1 r f
    ∙ ap₂ ◌*◌ (one-mul (f 0) ∙ ap (λ (x : ℕ). 2 * (2 ^ x - 1)) (sub-zero (suc m)))
    (total_ext ◌*◌ 1 r (λ i. f (1 + i)) g (λ i l. ap (λ (x : ℕ). 2 * (2 ^ x - 1)) (less i)))
    ∙ mul_assoc 2 (2 ^ suc m - 1) (total ◌*◌ 1 r g)
  where
    less : (i : ℕ) → suc m - (1 + i) ≡ m - i
    less i = omega arith

-- ---- one round at exponent m + 1, where the reading one order lower mends the words fewer than t / 2 places away

-- four bits are added by rows or by columns
parity_swap : (a b c d : ℕ) → ((a + b) % 2 + (c + d) % 2) % 2 ≡ ((a + c) % 2 + (b + d) % 2) % 2
parity_swap a b c d = simp unmod (simp sorted)

-- a place gets the votes of the places that differ from it
sum_others : (m : ℕ) (e : ℕ → ℕ) (p : ℕ) → p < 2 ^ m → sum_below (2 ^ m - 1) (λ i. (e p + e (bit_xor p (suc i))) % 2) ≡ sum_below (2 ^ m) (λ q. (e p + e q) % 2)
sum_others m e p l =
    let g : ℕ → ℕ = λ b. (e p + e (bit_xor p b)) % 2 in
    let own : g 0 ≡ 0 = ap (λ (x : ℕ). (e p + e x) % 2) (xor_zero_r p) ∙ omega arith in
    omega (arith, own, sum_first (2 ^ m - 1) g, ap (λ (n : ℕ). sum_below n g) (suc_ones m), sum_from m p (λ q. (e p + e q) % 2) l)

module _ (m r : ℕ) (hm : m < 32) (lower : List ℕ → Outcome) (t most : ℕ) (small : t ≤ 2 ^ m)
    (mends : (v e : List ℕ) → IsWord m v → IsCodeword m r e → 2 * distance m v e < t → Mends e most (lower v)) where
  module _ (w c : List ℕ) (hw : IsWord (suc m) w) (hc : IsCodeword (suc m) (suc r) c) (few : 2 * distance (suc m) w c < t) where
    direction : (i : ℕ) → i < 2 ^ suc m - 1 → Mends (project m (suc i) c) most (lower (project m (suc i) w))
    direction i l =
        mends (project m (suc i) w) (project m (suc i) c) (word_project m (suc i) w) (project_codeword m r (suc i) c hm (omega arith) (omega arith) hc)
        (omega (arith, distance-project m (suc i) w c hm (omega arith) (omega arith)))

    -- 1 at a wrong place
    abbrev wrong : ℕ → ℕ
    wrong p = (bit w p + bit c p) % 2

    vote_at : (p i : ℕ) → p < 2 ^ suc m → i < 2 ^ suc m - 1
        → vote (suc i) (project m (suc i) w) (lower (project m (suc i) w)) p ≡ (wrong p + wrong (bit_xor p (suc i))) % 2
    vote_at p i lp li =
        let b : ℕ = suc i in
        let below : b < 2 ^ suc m = omega arith in
        let top : Top (highest b) b = highest_top b (omega arith) (omega (arith, pow_mono hm)) in
        ap (λ (o : Outcome). vote b (project m b w) o p) (direction i li).outcome
        ∙ ap₂ (λ (x y : ℕ). (x + y) % 2) (project_coset b top p m w below lp) (project_coset b top p m c below lp)
        ∙ parity_swap (bit w p) (bit w (bit_xor p b)) (bit c p) (bit c (bit_xor p b))

    votes_at : (p : ℕ) → p < 2 ^ suc m → votes m lower w p ≡ sum_below (2 ^ suc m) (λ q. (wrong p + wrong q) % 2)
    unfolding votes
    votes_at p l = sum_ext (2 ^ suc m - 1) _ _ (λ i k. vote_at p i l k) ∙ sum_others (suc m) wrong p l

    none_abstained : abstained m lower w ≡ 0
    unfolding abstained
    none_abstained = sum_zero (2 ^ suc m - 1) _ (λ i l. ap abstains (direction i l).outcome)

    round_leaves_lem : round_leaves m lower w ≤ (2 ^ suc m - 1) * most
    unfolding round_leaves
    round_leaves_lem = sum_most (2 ^ suc m - 1) most _ (λ i l. omega (arith, ap leaves_of (direction i l).outcome, (direction i l).leaves_most))

    -- a right place gets a vote from each wrong one, and a wrong place from each right one
    tallied : (x : ℕ) → x < 2 → indicator (ltb (2 ^ suc m - 1) (2 * sum_below (2 ^ suc m) (λ q. (x + wrong q) % 2))) ≡ x
    unfolding distance
    tallied zero h =
        let same : sum_below (2 ^ suc m) (λ q. (0 + wrong q) % 2) ≡ distance (suc m) w c = sum_ext (2 ^ suc m) _ _ (λ q k. omega arith) in
        ap indicator (le-ltb (2 ^ suc m - 1) (2 * sum_below (2 ^ suc m) (λ q. (0 + wrong q) % 2)) (omega arith))
    tallied (suc zero) h =
        let other : sum_below (2 ^ suc m) (λ q. (1 + wrong q) % 2) + distance (suc m) w c ≡ 2 ^ suc m = sum_turned (2 ^ suc m) wrong (λ q. omega arith) in
        ap indicator (lt-ltb (2 ^ suc m - 1) (2 * sum_below (2 ^ suc m) (λ q. (1 + wrong q) % 2)) (omega arith))
    tallied (suc (suc x)) h = absurd (omega arith)

    -- exactly the wrong places flip
    flips_wrong : flips m lower w ≡ add_words w c
    unfolding flips
    flips_wrong =
        word_ext (flips_word m lower w) (word_add hw hc.word)
        (λ p l.
        bit_tabulate (2 ^ suc m) _ p l
        ∙ ap₂ (λ (v a : ℕ). indicator (flipped v (2 ^ suc m - 1) a)) (votes_at p l) none_abstained
        ∙ ap indicator (flipped_all _ _)
        ∙ tallied (wrong p) (omega arith)
        ∙ sym (word_bit hw hc.word p))

    mended : add_words w (flips m lower w) ≡ c
    mended = ap (add_words w) flips_wrong ∙ sym (add_cancel hw hc.word)

    -- where nothing flips, nothing is wrong
    right : still m lower w ≡ true → w ≡ c
    right e =
        word_ext hw hc.word
        (λ p l.
        omega (
          arith,
          eqb-true (bit (flips m lower w) p) 0 (all_true (2 ^ suc m) _ e p l),
          ap (λ (v : List ℕ). bit v p) flips_wrong,
          word_bit hw hc.word p,
          hw.bits p,
          hc.word.bits p,
        ))

  module _ (c : List ℕ) (hc : IsCodeword (suc m) (suc r) c) (pos : 0 < t) where
    none : 2 * distance (suc m) c c < t
    none = omega (arith, distance_self (suc m) c)

    -- a codeword is settled
    rounds_right : (left k l : ℕ) → rounds m lower (suc r) (suc left) k l c ≡ accepted c (suc k) (l + round_leaves m lower c)
    rounds_right left k l = rounds_step m lower (suc r) left k l c ∙ rw (settles, test_of_codeword (suc m) (suc r) c hc)
      where
        settles : still m lower c ≡ true
        settles =
            true_all (2 ^ suc m) _
            (λ p b. eq-eqb (bit (flips m lower c) p) 0
            (ap (λ (v : List ℕ). bit v p) (flips_wrong c c hc.word hc none) ∙ word_bit hc.word hc.word p ∙ omega arith))

    leaves_right : round_leaves m lower c ≤ (2 ^ suc m - 1) * most
    leaves_right = round_leaves_lem c c hc.word hc none

  -- the first round turns the wrong places, and the second finds nothing to do
  rounds_mend : (left : ℕ) → 2 ≤ left → (w c : List ℕ) → IsWord (suc m) w → IsCodeword (suc m) (suc r) c → 2 * distance (suc m) w c < t
      → Mends c (2 * ((2 ^ suc m - 1) * most)) (rounds m lower (suc r) left 0 0 w)
  rounds_mend zero two w c hw hc few = absurd (omega arith)
  rounds_mend (suc zero) two w c hw hc few = absurd (omega arith)
  rounds_mend (suc (suc left)) two w c hw hc few = go (still m lower w) refl
    where
      pos : 0 < t
      pos = omega arith

      go : (s : Bool) → still m lower w ≡ s → Mends c (2 * ((2 ^ suc m - 1) * most)) (rounds m lower (suc r) (suc (suc left)) 0 0 w)
      go true e = record {
        rounds = 1;
        leaves = 0 + round_leaves m lower c;
        outcome = ap (rounds m lower (suc r) (suc (suc left)) 0 0) (right w c hw hc few e) ∙ rounds_right c hc pos (suc left) 0 0;
        rounds_most = omega arith;
        leaves_most = omega (arith, leaves_right c hc pos);
      }
      go false e = record {
        rounds = 2;
        leaves = 0 + round_leaves m lower w + round_leaves m lower c;
        outcome = rounds_step m lower (suc r) (suc left) 0 0 w
            ∙ rw e (ap (rounds m lower (suc r) (suc left) 1 (0 + round_leaves m lower w)) (mended w c hw hc few) ∙ rounds_right c hc pos left 1 _);
        rounds_most = omega arith;
        leaves_most = omega (arith, leaves_right c hc pos, round_leaves_lem w c hw hc few);
      }

-- ---- the reading

-- nearer than half the distance is nearest
near : {m r : ℕ} {w c : List ℕ} → r ≤ m → IsCodeword m r c → 2 * distance m w c < 2 ^ (m - r) → Nearest m r w c
near {m} {r} {w} {c} h hc few = record {
  codeword = hc;
  nearer = λ d hd ne. omega (arith, code_distance h hc hd (λ e. ne (sym e)), triangle m w c d);
}

leaf : {c : List ℕ} {r most : ℕ} {o : Outcome} → r ≤ most → o ≡ accepted c 0 r → Mends c most o
leaf {c} {r} l e = record { rounds = 0; leaves = r; outcome = e; rounds_most = omega arith; leaves_most = l }

pub reading_mends : (r m limit : ℕ) → r ≤ m → m ≤ 32 → 2 ≤ limit → (w c : List ℕ) → IsWord m w → IsCodeword m r c → 2 * distance m w c < 2 ^ (m - r)
    → Mends c (enough m r) (reading r m limit w)
unfolding reading enough total
reading_mends zero m limit h hm two w c hw hc few = leaf (omega arith) (nearest_accepted (order0_judged hw) (near h hc few))
reading_mends (suc zero) m limit h hm two w c hw hc few = leaf (omega arith) (nearest_accepted (order1_judged h hw) (near h hc few))
reading_mends (suc (suc r)) zero limit h hm two w c hw hc few = absurd (omega arith)
reading_mends (suc (suc r)) (suc m) limit h hm two w c hw hc few =
    let same : suc m - suc (suc r) ≡ m - suc r = omega arith in
    subst (λ (x : ℕ). Mends c x (rounds m (reading (suc r) m limit) (suc (suc r)) limit 0 0 w)) (sym (enough_step m r))
    (rounds_mend m (suc r) (omega arith) (reading (suc r) m limit) (2 ^ (m - suc r)) (enough m (suc r)) (pow_mono (omega arith))
    (λ v e hv he l. reading_mends (suc r) m limit (omega arith) (omega arith) two v e hv he l)
    limit two w c hw hc (subst (λ (x : ℕ). 2 * distance (suc m) w c < 2 ^ x) same few))

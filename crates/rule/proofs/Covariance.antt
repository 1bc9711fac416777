-- A reading of a word plus a codeword is the reading of the word, plus the codeword. Assumes nothing.
use Rattle.std.specs.Prelude.{ℕ, zero, suc, ◌+◌, ◌-◌, ◌%◌, ◌^◌, ◌≤◌, ◌<◌, ◌≡◌, refl, Bool, true, false, cond, List}
use Rattle.std.proofs.Common.{sym, ap₂, ◌∙◌, arith}
use Rattle.code.specs.Code.{IsCodeword, codeword_test}
use Rattle.code.proofs.Codewords.{codeword_of_test, test_add}
use Rattle.rule.proofs.Order0.{order0_add, order0_in}
use Rattle.rule.proofs.Order1.{order1_add, order1_in}
use Rattle.direction.proofs.Projected.{project_add, project_codeword, word_project}
use Rattle.rule.specs.Outcomes.{shift, CodewordIn}
use Rattle.rule.specs.Reading.{Outcome, accepted, flips, reading, refused, round_leaves, rounds}
use Rattle.rule.proofs.Rounds.{SameBallot, flips_same, flips_word, leaves_same, round_cases, rounds_none, rounds_step, settled, still}
use Rattle.direction.specs.Direction.{coset_of, project}
use Rattle.hadamard.specs.Correlation.{values}
use Rattle.words.specs.Word.{IsWord, add_words, bit}
use Rattle.words.proofs.WordLaws.{add_swap, unmod, word_add, word_bit}

-- a direction counts for the same on both words
ballot_add : (m r b : ℕ) (v e : List ℕ) → IsWord m v → IsWord m e → (o : Outcome) → CodewordIn m r o → SameBallot b (add_words v e) (shift e o) v o
ballot_add m r b v e hv he (accepted d k l) hd = record {
  voted = λ p.
      ap₂ (λ (x y : ℕ). (x + y) % 2) (word_bit hv he (coset_of b p)) (word_bit hd.word he (coset_of b p))
      ∙ twice (bit v (coset_of b p)) (bit d (coset_of b p)) (bit e (coset_of b p));
  absent = refl;
  counted = refl;
}
  where
    twice : (x y z : ℕ) → ((x + z) % 2 + (y + z) % 2) % 2 ≡ (x + y) % 2
    twice x y z = simp unmod (omega arith)
ballot_add m r b v e hv he (refused n k l) hd = record { voted = λ p. refl; absent = refl; counted = refl }

module _ (m : ℕ) (lower : List ℕ → Outcome) where
  rounds_in : (r left k l : ℕ) (w : List ℕ) → IsWord (suc m) w → CodewordIn (suc m) r (rounds m lower r left k l w)
  rounds_in r zero k l w hw = rw (rounds_none m lower r k l w) tt
  rounds_in r (suc left) k l w hw =
      round_cases m lower r left k l w (CodewordIn (suc m) r)
      (codeword_of_test (suc m) r w hw)
      tt
      (rounds_in r left _ _ (add_words w (flips m lower w)) (word_add hw (flips_word m lower w)))

  module _ (r : ℕ) (hm : m < 32)
      (lower_in : (v : List ℕ) → IsWord m v → CodewordIn m r (lower v))
      (lower_add : (v e : List ℕ) → IsWord m v → IsCodeword m r e → lower (add_words v e) ≡ shift e (lower v))
      (c : List ℕ) (hc : IsCodeword (suc m) (suc r) c) where
    ballot : (w : List ℕ) → IsWord (suc m) w → (i : ℕ) → i < 2 ^ suc m - 1
        → SameBallot (suc i) (project m (suc i) (add_words w c)) (lower (project m (suc i) (add_words w c))) (project m (suc i) w) (lower (project m (suc i) w))
    ballot w hw i l =
        let v = word_project m (suc i) w in
        let e = project_codeword m r (suc i) c hm (omega arith) (omega arith) hc in
        rw (project_add m (suc i) w c (hw.size ∙ sym hc.word.size), lower_add _ _ v e)
        (ballot_add m r (suc i) _ _ v e.word _ (lower_in _ v))

    rounds_add : (left k l : ℕ) (w : List ℕ) → IsWord (suc m) w → rounds m lower (suc r) left k l (add_words w c) ≡ shift c (rounds m lower (suc r) left k l w)
    rounds_add zero k l w hw = simp (rounds_none m lower)
    rounds_add (suc left) k l w hw =
        rw (
          rounds_step m lower (suc r) left k l (add_words w c),
          rounds_step m lower (suc r) left k l w,
          flips_same m lower lower _ _ (ballot w hw),
          leaves_same m lower lower _ _ (ballot w hw),
          test_add (suc m) (suc r) w c hw hc,
          add_swap hw hc.word (flips_word m lower w),
        )
        (pushed (still m lower w) (codeword_test (suc m) (suc r) w) _ _ _ _
        (rounds_add left (suc k) (l + round_leaves m lower w) (add_words w (flips m lower w)) (word_add hw (flips_word m lower w))))
      where
        pushed : (t s : Bool) (i j : ℕ) (o o' : Outcome) → o ≡ shift c o' → cond t (settled (add_words w c) i j s) o ≡ shift c (cond t (settled w i j s) o')
        pushed true true i j o o' e = refl
        pushed true false i j o o' e = refl
        pushed false s i j o o' e = e

-- what a reading decodes is a codeword
pub reading_in : (r m limit : ℕ) (w : List ℕ) → r ≤ m → IsWord m w → CodewordIn m r (reading r m limit w)
unfolding reading
reading_in zero m limit w h hw = order0_in m (values w)
reading_in (suc zero) m limit w h hw = order1_in m (values w)
reading_in (suc (suc r)) zero limit w h hw = absurd (omega arith)
reading_in (suc (suc r)) (suc m) limit w h hw = rounds_in m (reading (suc r) m limit) (suc (suc r)) limit 0 0 w hw

pub reading_add : (r m limit : ℕ) → r ≤ m → m ≤ 10 → (w c : List ℕ) → IsWord m w → IsCodeword m r c → reading r m limit (add_words w c) ≡ shift c (reading r m limit w)
unfolding reading
reading_add zero m limit h hm w c hw hc = order0_add m w c hw hc
reading_add (suc zero) m limit h hm w c hw hc = order1_add m w c h hw hc
reading_add (suc (suc r)) zero limit h hm w c hw hc = absurd (omega arith)
reading_add (suc (suc r)) (suc m) limit h hm w c hw hc =
    rounds_add m (reading (suc r) m limit) (suc r) (omega arith) (λ v hv. reading_in (suc r) m limit v (omega arith) hv)
    (λ v e hv he. reading_add (suc r) m limit (omega arith) (omega arith) v e hv he) c hc limit 0 0 w hw

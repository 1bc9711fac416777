-- The blocks of a load: how far each is from the codeword sent, and that a load once begun is never refused. Assumes nothing.
use Prim.Native.Nat.{ℕ, zero, suc, ◌^◌, ◌<◌}
use Rattle.std.proofs.Common.{arith, sym, ap, ◌∙◌}
use Rattle.std.specs.Prelude.{◌≡◌, ◌≢◌, Bool, true, false, not, List}
use borrow.Author.Tests.{eqb-false, ltb-true, ltb-false, ne_eqb, not-true}
use Rattle.words.specs.Sum.{sum_below}
use Rattle.words.specs.SumLaws.{sum_ext}
use Rattle.words.specs.Word.{IsWord, add_words, bit, differs, distance}
use Rattle.words.proofs.WordLaws.{unmod, word_add, word_bit}
use Rattle.code.specs.Code.{IsCodeword, dimension}
use Rattle.code.proofs.Inverse.{encoder_codeword}
use Rattle.refusals.specs.Refusals.{first_refusal}
use Rattle.refusals.proofs.CheckLaws.{passed, passes}
use Rattle.tables.specs.Tables.{Slot, held}
use Rattle.generator.specs.Generator.{steps, wrong_in}
use Rattle.generator.specs.StepLaws.{Live, steps_live}
use Rattle.generator.specs.PlaceLaws.{FewWrong, places_live, places_noise}
use Rattle.load.specs.Load.{block_checks, block_from, left_short, places_after, sent_from, state_after, state_before}

-- ---- how far a block is from the codeword sent

-- a word added changes as many places as it has ones
distance_noise : {m : ℕ} {u v : List ℕ} → IsWord m u → IsWord m v → distance m u (add_words u v) ≡ wrong_in v
unfolding distance wrong_in
distance_noise {m} {u} {v} hu hv =
    sum_ext (2 ^ m) (differs u (add_words u v)) (bit v) (λ p l. rw (word_bit hu hv p) (simp unmod (omega (arith, hv.bits p))))
    ∙ ap (λ (n : ℕ). sum_below n (bit v)) (sym hv.size)

-- what was sent is a codeword, and the block differs from it in the asked number of places, or, marked short, in fewer
pub record Disturbed (m r asked : ℕ) (sent block : List ℕ) (short : Bool) : Type 0 where
  pub sent_is : IsCodeword m r sent
  pub block_is : IsWord m block
  pub whole : short ≡ false → distance m sent block ≡ asked
  pub fewer : short ≡ true → distance m sent block < asked

module _ (m r asked x : ℕ) where
  pub sent_codeword : IsCodeword m r (sent_from m r x)
  unfolding sent_from
  sent_codeword = encoder_codeword m r _

  noise : FewWrong m asked (places_after m r asked x).noise
  unfolding places_after
  noise = places_noise m asked (steps (dimension m r) x)

  pub block_word : IsWord m (block_from m r asked x)
  unfolding block_from
  block_word = word_add sent_codeword.word noise.word

  -- the places where it differs are those that were drawn
  pub block_distance : distance m (sent_from m r x) (block_from m r asked x) ≡ wrong_in (places_after m r asked x).noise
  unfolding block_from
  block_distance = distance_noise sent_codeword.word noise.word

  pub block_disturbed : Disturbed m r asked (sent_from m r x) (block_from m r asked x) (left_short m r asked x)
  unfolding left_short
  block_disturbed =
      let w : ℕ = wrong_in (places_after m r asked x).noise in
      record {
        sent_is = sent_codeword;
        block_is = block_word;
        whole = λ e. omega (arith, block_distance, ltb-false w asked e, noise.few);
        fewer = λ e. omega (arith, block_distance, ltb-true w asked e);
      }

-- ---- 21 comes at the start of a load or not at all

pub after_live : (m r asked : ℕ) {x : ℕ} → Live x → Live (state_after m r asked x)
unfolding state_after places_after
after_live m r asked h = places_live (2 ^ m) asked _ (steps_live (dimension m r) h)

pub before_live : (m r asked : ℕ) {start : ℕ} → Live start → (i : ℕ) → Live (state_before m r asked start i)
unfolding state_before
before_live m r asked h zero = h
before_live m r asked h (suc i) = after_live m r asked (before_live m r asked h i)

-- once a block is drawn, so is the next
pub load_goes_on :
    (slot : Slot) (x asked room : ℕ) → x < 2 ^ 32 → first_refusal (block_checks slot x asked room) ≡ 0
    → first_refusal (block_checks slot (state_after (held slot).m (held slot).r asked x) asked room) ≡ 0
load_goes_on slot x asked room h e =
    let c14 = passed 13 _ _ e in
    let c21 = passed 20 _ _ c14.1 in
    let y : ℕ = state_after (held slot).m (held slot).r asked x in
    let some : y ≢ 0 = (after_live (held slot).m (held slot).r asked record { small = h; some = eqb-false x 0 (not-true _ c21.0) }).some in
    sym (passes 14 _ _ c14.0 (passes 21 _ _ (ap not (ne_eqb y 0 some)) (sym c21.1)))

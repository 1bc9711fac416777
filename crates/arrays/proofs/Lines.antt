-- One row or column: what its reading leaves, counts, and does with a codeword added. Assumes nothing.
use Rattle.std.specs.Prelude.{ℕ, ◌^◌, ◌≤◌, min, ◌≡◌, refl, List}
use Rattle.std.proofs.Common.{sym, ap, ◌∙◌, le_refl, arith}
use Rattle.words.specs.Sum.{tabulate}
use Rattle.words.specs.SumLaws.{bit_tabulate}
use Rattle.words.specs.Word.{IsWord, add_words, bit}
use Rattle.words.proofs.WordLaws.{word_add, word_bit, word_ext, word_tabulate}
use Rattle.code.specs.Code.{IsCodeword}
use Rattle.rule.specs.Counts.{clean_rounds, most_leaves}
use Rattle.rule.proofs.Clean.{reading_clean}
use Rattle.rule.proofs.Counts.{reading_noise}
use Rattle.rule.proofs.Covariance.{reading_add, reading_in}
use Rattle.rule.specs.Decoding.{limited, output_of}
use Rattle.rule.proofs.DecodingLaws.{limited_cases, limited-shift}
use Rattle.rule.specs.Demand3.{Sound}
use Rattle.rule.proofs.Demand3.{sound}
use Rattle.rule.specs.Outcomes.{shift, leaves_shift}
use Rattle.rule.specs.Reading.{Outcome, accepted, leaves_of, reading, refused}
use Rattle.arrays.specs.Arrays.{line_left, line_read}
use Rattle.arrays.specs.IsSide.{IsSide}

left_shift : (v c : List ℕ) (o : Outcome) → output_of (shift c o) (add_words v c) ≡ add_words (output_of o v) c
left_shift v c (accepted d k l) = refl
left_shift v c (refused e k l) = refl

left_is_word : (m r : ℕ) (v : List ℕ) → IsWord m v → (o : Outcome) → Sound m r o → IsWord m (output_of o v)
left_is_word m r v hv (accepted d k l) h = h.word
left_is_word m r v hv (refused e k l) h = hv

pub leaves_most : (m r rounds leaves : ℕ) (v : List ℕ) → leaves_of (line_read m r rounds leaves v) ≤ leaves
leaves_most m r rounds leaves v = limited_cases leaves (reading r m rounds v) (λ (o : Outcome). leaves_of o ≤ leaves) (λ h. le_refl leaves) (λ h. h)

-- what is accepted is a codeword
pub line_sound : (m r rounds leaves : ℕ) → r ≤ m → (v : List ℕ) → IsWord m v → Sound m r (line_read m r rounds leaves v)
line_sound m r rounds leaves order v hv =
    limited_cases leaves (reading r m rounds v) (Sound m r) (λ h. omega arith)
    (λ h. sound m r (reading r m rounds v) (reading_in r m rounds v order hv) (reading_noise r m rounds v))

module _ {m r : ℕ} (side : IsSide m r) (rounds leaves : ℕ) where
  pub left_word : (v : List ℕ) → IsWord m v → IsWord m (line_left m r rounds leaves v)
  left_word v hv = left_is_word m r v hv (line_read m r rounds leaves v) (line_sound m r rounds leaves side.order v hv)

  module _ (v c : List ℕ) (hv : IsWord m v) (hc : IsCodeword m r c) where
    line_add : line_read m r rounds leaves (add_words v c) ≡ shift c (line_read m r rounds leaves v)
    line_add = ap (limited leaves) (reading_add r m rounds side.order (omega (arith, side.most)) v c hv hc) ∙ limited-shift leaves (reading r m rounds v) c

    pub left_add : line_left m r rounds leaves (add_words v c) ≡ add_words (line_left m r rounds leaves v) c
    left_add = ap (λ (o : Outcome). output_of o (add_words v c)) line_add ∙ left_shift v c (line_read m r rounds leaves v)

    pub leaves_add : leaves_of (line_read m r rounds leaves (add_words v c)) ≡ leaves_of (line_read m r rounds leaves v)
    leaves_add = ap leaves_of line_add ∙ leaves_shift c (line_read m r rounds leaves v)

  -- a codeword stays, refused 12 or not
  module _ (one : 1 ≤ rounds) (c : List ℕ) (hc : IsCodeword m r c) where
    clean : reading r m rounds c ≡ accepted c (clean_rounds r) (most_leaves r m 1)
    clean = reading_clean r m rounds side.some side.order (omega (arith, side.most)) one c hc

    pub left_clean : line_left m r rounds leaves c ≡ c
    left_clean = limited_cases leaves (reading r m rounds c) (λ (o : Outcome). output_of o c ≡ c) (λ h. refl) (λ h. ap (λ (o : Outcome). output_of o c) clean)

    pub leaves_clean : leaves_of (line_read m r rounds leaves c) ≡ min (most_leaves r m 1) leaves
    leaves_clean =
        limited_cases leaves (reading r m rounds c) (λ (o : Outcome). leaves_of o ≡ min (most_leaves r m 1) leaves)
        (λ h. omega (arith, ap leaves_of clean)) (λ h. omega (arith, ap leaves_of clean))

-- ---- the places g 0, g 1, .. of a list, as a row or a column has them

abbrev pub picked : ℕ → (ℕ → ℕ) → List ℕ → List ℕ
picked m g w = tabulate (2 ^ m) (λ p. bit w (g p))

module _ {n : ℕ} (m : ℕ) (g : ℕ → ℕ) where
  pub picked_word : {w : List ℕ} → IsWord n w → IsWord m (picked m g w)
  picked_word h = word_tabulate m _ (λ p l. h.bits (g p))

  pub picked_add : {w c : List ℕ} → IsWord n w → IsWord n c → picked m g (add_words w c) ≡ add_words (picked m g w) (picked m g c)
  picked_add {w} {c} hw hc =
      word_ext (picked_word (word_add hw hc)) (word_add (picked_word hw) (picked_word hc))
      (λ p l. bit_tabulate (2 ^ m) _ p l ∙ word_bit hw hc (g p)
      ∙ sym (word_bit (picked_word hw) (picked_word hc) p ∙ rw (bit_tabulate (2 ^ m) (λ q. bit w (g q)) p l, bit_tabulate (2 ^ m) (λ q. bit c (g q)) p l)))

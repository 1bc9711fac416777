-- Arrays: what rows and columns leave, the test, and an array of codewords added. Assumes nothing.
use Rattle.std.specs.Prelude.{ℕ, ◌+◌, ◌*◌, ◌/◌, ◌%◌, ◌^◌, ◌<◌, ◌≡◌, refl, Bool, true, false, cond, List}
use Rattle.std.proofs.Common.{sym, ap, ◌∙◌, div-add-mod', mod-lt, arith, pow_pos, shr_lt}
use Rattle.words.specs.SumLaws.{all_ext, all_true, bit_tabulate, both_true, sum_ext, true_all}
use Rattle.words.specs.Word.{IsWord, add_words, bit}
use Rattle.words.proofs.WordLaws.{word_add, word_bit, word_ext, word_tabulate}
use Rattle.code.specs.Code.{IsCodeword, codeword_test}
use Rattle.code.proofs.Codewords.{codeword_of_test, test_add, test_of_codeword}
use Rattle.rule.specs.Outcomes.{shift}
use Rattle.rule.specs.Reading.{accepted, leaves_of, refused}
use Rattle.arrays.specs.Arrays.{IsArray, array, array_read, array_test, column, column_leaves, columns_left, columns_test, line_left, line_read, row, row_leaves, rows_left, rows_test}
use Rattle.arrays.specs.IsSide.{IsSide}
use Rattle.arrays.proofs.Lines.{leaves_add, left_add, left_word, picked, picked_add, picked_word}

-- ---- places by row and column

module _ (mr mc : ℕ) where
  pub row_of : (p : ℕ) → p < 2 ^ (mc + mr) → p / 2 ^ mr < 2 ^ mc
  row_of p l = shr_lt mc mr l

  pub column_of : (p : ℕ) → p % 2 ^ mr < 2 ^ mr
  column_of p = mod-lt p (pow_pos mr)

  module _ {f : ℕ → ℕ → ℕ} (bits : (i j : ℕ) → i < 2 ^ mc → j < 2 ^ mr → f i j < 2) where
    array_word : IsWord (mc + mr) (array mr mc f)
    array_word = word_tabulate (mc + mr) _ (λ p l. bits (p / 2 ^ mr) (p % 2 ^ mr) (row_of p l) (column_of p))

    -- an array plus c, place by place
    array-add : {g : ℕ → ℕ → ℕ} {c : List ℕ} → IsWord (mc + mr) c → ((i j : ℕ) → i < 2 ^ mc → j < 2 ^ mr → g i j ≡ (f i j + bit c (i * 2 ^ mr + j)) % 2)
        → array mr mc g ≡ add_words (array mr mc f) c
    array-add {g} {c} hc e =
        word_ext (word_tabulate (mc + mr) _ (λ p l. rw (e (p / 2 ^ mr) (p % 2 ^ mr) (row_of p l) (column_of p)) (omega arith))) (word_add array_word hc)
        (λ p l. bit_tabulate (2 ^ (mc + mr)) _ p l ∙ e (p / 2 ^ mr) (p % 2 ^ mr) (row_of p l) (column_of p)
        ∙ sym (word_bit array_word hc p ∙ rw (bit_tabulate (2 ^ (mc + mr)) (λ q. f (q / 2 ^ mr) (q % 2 ^ mr)) p l, div-add-mod' p (2 ^ mr))))

-- ---- a line of the array, by its places g

module _ {n m r : ℕ} (side : IsSide m r) (rounds leaves : ℕ) (g : ℕ → ℕ) {w c : List ℕ} (hw : IsWord n w) (hc : IsWord n c) (code : IsCodeword m r (picked m g c)) where
  bit_left_add : (p : ℕ) → p < 2 ^ m
      → bit (line_left m r rounds leaves (picked m g (add_words w c))) p ≡ (bit (line_left m r rounds leaves (picked m g w)) p + bit c (g p)) % 2
  bit_left_add p l =
      ap (λ (v : List ℕ). bit (line_left m r rounds leaves v) p) (picked_add m g hw hc)
      ∙ ap (λ (v : List ℕ). bit v p) (left_add side rounds leaves (picked m g w) (picked m g c) (picked_word m g hw) code)
      ∙ word_bit (left_word side rounds leaves (picked m g w) (picked_word m g hw)) (picked_word m g hc) p
      ∙ rw (bit_tabulate (2 ^ m) (λ q. bit c (g q)) p l)

  line_leaves_add : leaves_of (line_read m r rounds leaves (picked m g (add_words w c))) ≡ leaves_of (line_read m r rounds leaves (picked m g w))
  line_leaves_add =
      ap (λ (v : List ℕ). leaves_of (line_read m r rounds leaves v)) (picked_add m g hw hc)
      ∙ leaves_add side rounds leaves (picked m g w) (picked m g c) (picked_word m g hw) code

  line_test_add : codeword_test m r (picked m g (add_words w c)) ≡ codeword_test m r (picked m g w)
  line_test_add = ap (codeword_test m r) (picked_add m g hw hc) ∙ test_add m r (picked m g w) (picked m g c) (picked_word m g hw) code

-- ---- the test is the property

module _ {mr rr mc rc : ℕ} {w : List ℕ} where
  pub array_of_test : IsWord (mc + mr) w → array_test mr rr mc rc w ≡ true → IsArray mr rr mc rc w
  unfolding array_test rows_test columns_test
  array_of_test hw e =
      let both = both_true (rows_test mr mc rr w) (columns_test mr mc rc w) e in
      record {
        word = hw;
        rows = λ i l. codeword_of_test mr rr (row mr mc w i) (picked_word mr _ hw) (all_true (2 ^ mc) _ both.0 i l);
        columns = λ j l. codeword_of_test mc rc (column mr mc w j) (picked_word mc _ hw) (all_true (2 ^ mr) _ both.1 j l);
      }

  pub test_of_array : IsArray mr rr mc rc w → array_test mr rr mc rc w ≡ true
  unfolding array_test rows_test columns_test
  test_of_array h =
      rw (
        true_all (2 ^ mc) (λ i. codeword_test mr rr (row mr mc w i)) (λ i l. test_of_codeword mr rr (row mr mc w i) (h.rows i l)),
        true_all (2 ^ mr) (λ j. codeword_test mc rc (column mr mc w j)) (λ j l. test_of_codeword mc rc (column mr mc w j) (h.columns j l)),
      )

-- ---- the whole reading

module _ {mr rr mc rc : ℕ} (across : IsSide mr rr) (down : IsSide mc rc) (rounds leaves : ℕ) where
  pub rows_word : (w : List ℕ) → IsWord (mc + mr) w → IsWord (mc + mr) (rows_left mr mc rr rounds leaves w)
  unfolding rows_left
  rows_word w h = array_word mr mc (λ i j li lj. (left_word across rounds leaves (row mr mc w i) (picked_word mr _ h)).bits j)

  pub columns_word : (w : List ℕ) → IsWord (mc + mr) w → IsWord (mc + mr) (columns_left mr mc rc rounds leaves w)
  unfolding columns_left
  columns_word w h = array_word mr mc (λ i j li lj. (left_word down rounds leaves (column mr mc w j) (picked_word mc _ h)).bits i)

  module _ (w c : List ℕ) (hw : IsWord (mc + mr) w) (hc : IsArray mr rr mc rc c) where
    rows_add : rows_left mr mc rr rounds leaves (add_words w c) ≡ add_words (rows_left mr mc rr rounds leaves w) c
    unfolding rows_left
    rows_add =
        array-add mr mc (λ i j li lj. (left_word across rounds leaves (row mr mc w i) (picked_word mr _ hw)).bits j) hc.word
        (λ i j li lj. bit_left_add across rounds leaves (λ q. i * 2 ^ mr + q) hw hc.word (hc.rows i li) j lj)

    columns_add : columns_left mr mc rc rounds leaves (add_words w c) ≡ add_words (columns_left mr mc rc rounds leaves w) c
    unfolding columns_left
    columns_add =
        array-add mr mc (λ i j li lj. (left_word down rounds leaves (column mr mc w j) (picked_word mc _ hw)).bits i) hc.word
        (λ i j li lj. bit_left_add down rounds leaves (λ q. q * 2 ^ mr + j) hw hc.word (hc.columns j lj) i li)

    row_leaves_add : row_leaves mr mc rr rounds leaves (add_words w c) ≡ row_leaves mr mc rr rounds leaves w
    unfolding row_leaves
    row_leaves_add = sum_ext (2 ^ mc) _ _ (λ i l. line_leaves_add across rounds leaves (λ q. i * 2 ^ mr + q) hw hc.word (hc.rows i l))

    column_leaves_add : column_leaves mr mc rc rounds leaves (add_words w c) ≡ column_leaves mr mc rc rounds leaves w
    unfolding column_leaves
    column_leaves_add = sum_ext (2 ^ mr) _ _ (λ j l. line_leaves_add down rounds leaves (λ q. q * 2 ^ mr + j) hw hc.word (hc.columns j l))

    test_array_add : array_test mr rr mc rc (add_words w c) ≡ array_test mr rr mc rc w
    unfolding array_test rows_test columns_test
    test_array_add = rw (
      all_ext (2 ^ mc) _ _ (λ i l. line_test_add across rounds leaves (λ q. i * 2 ^ mr + q) hw hc.word (hc.rows i l)),
      all_ext (2 ^ mr) _ _ (λ j l. line_test_add down rounds leaves (λ q. q * 2 ^ mr + j) hw hc.word (hc.columns j l)),
    )

  shift-cond : (c d : List ℕ) (l : ℕ) (t : Bool) → cond t (accepted (add_words d c) 0 l) (refused 28 0 l) ≡ shift c (cond t (accepted d 0 l) (refused 28 0 l))
  shift-cond c d l true = refl
  shift-cond c d l false = refl

  -- "Arrays differing by such an array of codewords .. get the same refusal or outputs that differ by it, and equal leaf counts."
  module _ (w c : List ℕ) (hw : IsWord (mc + mr) w) (hc : IsArray mr rr mc rc c) where
    abbrev v : List ℕ
    v = rows_left mr mc rr rounds leaves w

    pub array_read_add : array_read mr rr mc rc rounds leaves (add_words w c) ≡ shift c (array_read mr rr mc rc rounds leaves w)
    unfolding array_read
    array_read_add =
        rw (
          rows_add w c hw hc,
          row_leaves_add w c hw hc,
          columns_add v c (rows_word w hw) hc,
          column_leaves_add v c (rows_word w hw) hc,
          test_array_add (columns_left mr mc rc rounds leaves v) c (columns_word v (rows_word w hw)) hc,
        )
        (shift-cond c (columns_left mr mc rc rounds leaves v) (row_leaves mr mc rr rounds leaves w + column_leaves mr mc rc rounds leaves v)
        (array_test mr rr mc rc (columns_left mr mc rc rounds leaves v)))
